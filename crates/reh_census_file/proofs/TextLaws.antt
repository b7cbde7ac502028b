-- Words and lines written one after another.
use Rattle.std.proofs.Common.{◌≡◌, ℕ, ◌+◌, ◌<◌, List, [], ◌∷◌, ◌++◌, length, map, drop, cond, Option, Some, None, Result, Ok, Err, OnOk, inl, inr, slice_get, slice_index_or, ◌≤◌, min, length-append, sym, ap, ◌∙◌, arith}
use Rattle.std.specs.List.{zip}
use Rattle.std.specs.Prelude.{codes}
use Rattle.std.specs.Result.{is_ok}
use Rattle.std.proofs.Math.ListN.{drop_of_length-le}
use Rattle.std.proofs.lemmas.List.{drop_more, append-nil, nil_from_length, length-map}
use Rattle.std.proofs.lemmas.Slice.Zip.{length-zip}
use Rattle.std.proofs.lemmas.Grind.{flat_map-append}
use Rattle.std.proofs.lemmas.Option.{get_or_from_slice_get, slice_get_within, slice_get_cases}
use mathlib.Core.List.{append_assoc}
use Rattle.reh_census.specs.declared.bookies.Bookie.{Bookie}
use Rattle.reh_census_file.specs.Lines.{behind_spaces, line_of, lines_of}
use Rattle.reh_census_file.specs.Texts.{bookie_words, head_words, bookie_lines, judged_words, entries_words, tail_words, ensemble_words, body_words}
use Rattle.reh_census_file.specs.Values.{NamedCensus}

abbrev nothing : List Bookie
nothing = []

abbrev nothing_found : Option (List ℕ)
nothing_found = None

-- one more element is written
pub written_more : {X : Type 0} (write : List X → List ℕ) (one : X → List ℕ) → ((x : X) (xs : List X) → write (x ∷ xs) ≡ one x ++ write xs)
    → (text : List ℕ) (xs : List X) (i : ℕ) (x : X) → i < length xs → x ≡ slice_index_or xs i x → (text ++ one x) ++ write (drop (i + 1) xs) ≡ text ++ write (drop i xs)
written_more write one step text xs i x within is =
    append_assoc text (one x) (write (drop (i + 1) xs))
    ∙ ap (λ t. text ++ t) (ap (λ y. one y ++ write (drop (i + 1) xs)) is ∙ sym (step (slice_index_or xs i x) (drop (i + 1) xs)) ∙ ap write (sym (drop_more xs i x within)))

-- the lines of the bookies from this number on
abbrev pub bookies_from : List (List ℕ) → List (List ℕ) → List Bookie → ℕ → List ℕ
bookies_from racks names bookies i = lines_of (map (λ named. bookie_words racks named.0 named.1) (zip (drop i names) (drop i bookies)))

-- one more bookie
pub bookie_more : (racks names : List (List ℕ)) (bookies : List Bookie) (text : List ℕ) (i : ℕ) (name : List ℕ) (d : Bookie) → i < length bookies → slice_get names i ≡ Some name
    → (text ++ line_of (bookie_words racks name (slice_index_or bookies i d))) ++ bookies_from racks names bookies (i + 1) ≡ text ++ bookies_from racks names bookies i
bookie_more racks names bookies text i name d within named =
    let b = slice_index_or bookies i d in
    append_assoc text (line_of (bookie_words racks name b)) (bookies_from racks names bookies (i + 1))
    ∙ ap (λ n. text ++ (line_of (bookie_words racks n b) ++ bookies_from racks names bookies (i + 1))) (sym (get_or_from_slice_get names i name name named))
    ∙ ap (λ ns. text ++ lines_of (map (λ named. bookie_words racks named.0 named.1) (zip ns (b ∷ drop (i + 1) bookies)))) (sym (drop_more names i name (slice_get_within names i name named)))
    ∙ ap (λ bs. text ++ lines_of (map (λ named. bookie_words racks named.0 named.1) (zip (drop i names) bs))) (sym (drop_more bookies i d within))

past : (names : List (List ℕ)) (i : ℕ) → slice_get names i ≡ None → length names ≤ i
past names i none =
    elim ((slice_get_cases names i).1) [
      | inl some ↦ absurd (none≢some (sym none ∙ some.2))
      | inr all ↦ all.0
    ]
  where
    none≢some : {x : List ℕ} → nothing_found ≡ Some x → ⊥
    none≢some e = cc

-- and no more, where no name is left
pub bookie_none : (racks names : List (List ℕ)) (bookies : List Bookie) (text : List ℕ) (i : ℕ) → slice_get names i ≡ None → text ++ bookies_from racks names bookies i ≡ text
bookie_none racks names bookies text i none =
    ap (λ ns. text ++ lines_of (map (λ named. bookie_words racks named.0 named.1) (zip ns (drop i bookies)))) (drop_of_length-le names (past names i none)) ∙ append-nil text

pub bookies_all : (racks names : List (List ℕ)) (bookies : List Bookie) (text : List ℕ) (i : ℕ) → length bookies ≤ i → text ++ bookies_from racks names bookies i ≡ text
bookies_all racks names bookies text i past =
    ap (λ bs. text ++ lines_of (map (λ named. bookie_words racks named.0 named.1) (zip (drop i names) bs))) (drop_of_length-le bookies past)
    ∙ ap (λ ps. text ++ lines_of (map (λ named. bookie_words racks named.0 named.1) ps)) (nil_from_length (zip (drop i names) []) (omega (arith, length-zip (drop i names) nothing))) ∙ append-nil text

-- the lines of lists of lines, one list after the other
pub lines_of-append : (xs ys : List (List (List ℕ))) → lines_of (xs ++ ys) ≡ lines_of xs ++ lines_of ys
lines_of-append xs ys = flat_map-append line_of xs ys

-- the lines but the last, group by group
pub body_is : (text : List ℕ) (c : NamedCensus)
    → (((((text ++ lines_of (head_words c)) ++ lines_of (bookie_lines c)) ++ line_of (judged_words c.census.judged)) ++ lines_of (map (entries_words c.names) c.census.entries)) ++ lines_of (map (tail_words c.names) c.census.tails))
    ++ lines_of (map (ensemble_words c.names) c.census.ensembles) ≡ text ++ lines_of (body_words c)
body_is text c =
    let head = lines_of (head_words c) in
    let bookies = lines_of (bookie_lines c) in
    let judged = line_of (judged_words c.census.judged) in
    let entries = map (entries_words c.names) c.census.entries in
    let tails = map (tail_words c.names) c.census.tails in
    let ensembles = map (ensemble_words c.names) c.census.ensembles in
    grouped text head bookies judged (lines_of entries) (lines_of tails) (lines_of ensembles)
    ∙ ap (λ t. text ++ (head ++ (bookies ++ (judged ++ (lines_of entries ++ t))))) (sym (lines_of-append tails ensembles))
    ∙ ap (λ t. text ++ (head ++ (bookies ++ (judged ++ t)))) (sym (lines_of-append entries (tails ++ ensembles)))
    ∙ ap (λ t. text ++ (head ++ t)) (sym (lines_of-append (bookie_lines c) (judged_words c.census.judged ∷ (entries ++ (tails ++ ensembles)))))
    ∙ ap (λ t. text ++ t) (sym (lines_of-append (head_words c) (bookie_lines c ++ (judged_words c.census.judged ∷ (entries ++ (tails ++ ensembles))))))
  where
    grouped : (t a b c d e f : List ℕ) → (((((t ++ a) ++ b) ++ c) ++ d) ++ e) ++ f ≡ t ++ (a ++ (b ++ (c ++ (d ++ (e ++ f)))))
    grouped t a b c d e f = simp append_assoc

-- and how many they are
pub body_len_is : (c : NamedCensus) (named : ℕ) → named ≡ min (length c.names) (length c.bookies)
    → 4 + named + length c.census.entries + length c.census.tails + length c.census.ensembles ≡ length (body_words c)
body_len_is c named is =
    let entries = map (entries_words c.names) c.census.entries in
    let tails = map (tail_words c.names) c.census.tails in
    let ensembles = map (ensemble_words c.names) c.census.ensembles in
    omega (
      arith,
      is,
      length-zip c.names c.bookies,
      length-map (zip c.names c.bookies) (λ named. bookie_words c.racks named.0 named.1),
      length-map c.census.entries (entries_words c.names),
      length-map c.census.tails (tail_words c.names),
      length-map c.census.ensembles (ensemble_words c.names),
      length-append (head_words c) (bookie_lines c ++ (judged_words c.census.judged ∷ (entries ++ (tails ++ ensembles)))),
      length-append (bookie_lines c) (judged_words c.census.judged ∷ (entries ++ (tails ++ ensembles))),
      length-append entries (tails ++ ensembles),
      length-append tails ensembles,
    )

-- a text that a line feed ends, if there is memory
pub ended : {A E : Type 0} (r : Result A E) (after before : List ℕ) → after ≡ cond (is_ok r) (before ++ codes "\n") before → OnOk r (after ≡ before ++ codes "\n")
ended (Ok x) after before is = is
ended (Err e) after before is = tt

-- the line of a class of entries
pub class_is : (t count write ack known untold : List ℕ) (holders others : List (List ℕ))
    → ((((t ++ (codes "entries " ++ (count ++ (codes " write " ++ (write ++ (codes " ack " ++ (ack ++ (codes " known " ++ known)))))))) ++ behind_spaces holders) ++ (codes " untold " ++ untold)) ++ behind_spaces others) ++ codes "\n"
    ≡ t ++ line_of (codes "entries" ∷ count ∷ codes "write" ∷ write ∷ codes "ack" ∷ ack ∷ codes "known" ∷ known ∷ (holders ++ (codes "untold" ∷ untold ∷ others)))
class_is t count write ack known untold holders others =
    grouped (behind_spaces holders) (behind_spaces others)
    ∙ ap (λ r. t ++ (codes "entries " ++ ((count ++ (codes " write " ++ (write ++ (codes " ack " ++ (ack ++ (codes " known " ++ (known ++ r))))))) ++ codes "\n")))
    (sym (flat_map-append (λ (word : List ℕ). 32 ∷ word) holders (codes "untold" ∷ untold ∷ others)))
  where
    grouped : (hs os : List ℕ)
        → ((((t ++ (codes "entries " ++ (count ++ (codes " write " ++ (write ++ (codes " ack " ++ (ack ++ (codes " known " ++ known)))))))) ++ hs) ++ (codes " untold " ++ untold)) ++ os) ++ codes "\n"
        ≡ t ++ (codes "entries " ++ ((count ++ (codes " write " ++ (write ++ (codes " ack " ++ (ack ++ (codes " known " ++ (known ++ (hs ++ (codes " untold " ++ (untold ++ os)))))))))) ++ codes "\n"))
    grouped hs os = simp append_assoc

-- the line of a tail
pub tail_is : (t count state size write ack : List ℕ) (members : List (List ℕ))
    → ((t ++ (codes "tail " ++ (count ++ (codes " " ++ (state ++ (codes " size " ++ (size ++ (codes " write " ++ (write ++ (codes " ack " ++ ack)))))))))) ++ behind_spaces members) ++ codes "\n"
    ≡ t ++ line_of (codes "tail" ∷ count ∷ state ∷ codes "size" ∷ size ∷ codes "write" ∷ write ∷ codes "ack" ∷ ack ∷ members)
tail_is t count state size write ack members = simp append_assoc

-- the lines at the head
pub head_is : (t strict taken : List ℕ)
    → t ++ (codes "census 1\nstrict " ++ (strict ++ (codes "\ntaken " ++ (taken ++ codes "\n"))))
    ≡ t ++ lines_of ((codes "census" ∷ codes "1" ∷ []) ∷ (codes "strict" ∷ strict ∷ []) ∷ (codes "taken" ∷ taken ∷ []) ∷ [])
head_is t strict taken =
    ap (λ s. t ++ (codes "census 1\nstrict " ++ s))
    ((λ i. sym (append-nil strict) i ++ (codes "\ntaken " ++ (sym (append-nil taken) i ++ codes "\n")))
    ∙ ap (λ s. (strict ++ []) ++ (codes "\ntaken " ++ s)) (sym (append-nil ((taken ++ []) ++ codes "\n")))
    ∙ sym (append_assoc (strict ++ []) (codes "\n") (codes "taken " ++ (((taken ++ []) ++ codes "\n") ++ []))))
