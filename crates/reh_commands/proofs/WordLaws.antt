-- The words of a line, one after another.
use Rattle.std.proofs.Common.{◌≡◌, ℕ, suc, ◌+◌, Bool, true, false, cond, not, None, List, [], ◌∷◌, ◌≢◌, length, take, drop, refl, sym, ap, ◌∙◌, arith}
use Rattle.std.specs.Prelude.{◌==◌, filter, position}
use Rattle.std.specs.List.{position_or_len, slice_split, onto_first}
use Rattle.std.proofs.lemmas.List.Splits.{slice_split-cons_no, slice_split-cons_yes}
use mathlib.Core.Bool.{true≢false}
use Rattle.std.proofs.lemmas.List.{nil_from_length}
use Rattle.std.proofs.lemmas.List.Sums.{prefix_len-le-length}
use Rattle.std.proofs.lemmas.Bool.Decides.{nat_tests}
use Rattle.reh_commands.specs.Script.{words_of, is_blank}

-- whether a part is a word
abbrev is_word : List ℕ → Bool
is_word part = not (length part == 0)

one_more : (n : ℕ) → 1 + n ≡ suc n
one_more n = omega arith

drop_more : (n b : ℕ) (bs : List ℕ) → drop (1 + n) (b ∷ bs) ≡ drop n bs
drop_more n b bs = rw (one_more n) refl

take_more : (n b : ℕ) (bs : List ℕ) → take (1 + n) (b ∷ bs) ≡ b ∷ take n bs
take_more n b bs = rw (one_more n) refl

some_bytes : (n : ℕ) → not (suc n == 0) ≡ true
some_bytes n = grind (arith, nat_tests)

-- separators in front are no part of any word
skip : (p : ℕ → Bool) (text : List ℕ) → filter is_word (slice_split p (drop (position_or_len (λ b. not (p b)) text) text)) ≡ filter is_word (slice_split p text)
skip p [] = refl
skip p (b ∷ bs) =
    elim (p b) as (λ t. p b ≡ t → filter is_word (slice_split p (drop (cond (not (not t)) (1 + position_or_len (λ b. not (p b)) bs) 0) (b ∷ bs))) ≡ filter is_word (cond t ([] ∷ slice_split p bs) (onto_first b (slice_split p bs)))) [
      | true ↦ λ e. ap (λ xs. filter is_word (slice_split p xs)) (drop_more (position_or_len (λ b. not (p b)) bs) b bs) ∙ skip p bs
      | false ↦ λ e. ap (filter is_word) (slice_split-cons_no p b bs e)
    ] refl

-- the first part ends at the first separator
first_part : (p : ℕ → Bool) (text : List ℕ) → slice_split p text ≡ take (position_or_len p text) text ∷ drop 1 (slice_split p text)
first_part p [] = refl
first_part p (b ∷ bs) =
    elim (p b) as (λ t. cond t ([] ∷ slice_split p bs) (onto_first b (slice_split p bs)) ≡ take (cond (not t) (1 + position_or_len p bs) 0) (b ∷ bs) ∷ drop 1 (cond t ([] ∷ slice_split p bs) (onto_first b (slice_split p bs)))) [
      | true ↦ refl
      | false ↦ ap (onto_first b) (first_part p bs) ∙ ap (λ part. part ∷ drop 1 (slice_split p bs)) (sym (take_more (position_or_len p bs) b bs)) ∙ ap (λ parts. take (1 + position_or_len p bs) (b ∷ bs) ∷ drop 1 (onto_first b parts)) (sym (first_part p bs))
    ]

-- and the words after it are those of the other parts
other_parts : (p : ℕ → Bool) (text : List ℕ) → filter is_word (slice_split p (drop (position_or_len p text) text)) ≡ filter is_word (drop 1 (slice_split p text))
other_parts p [] = refl
other_parts p (b ∷ bs) =
    elim (p b) as (λ t. p b ≡ t → filter is_word (slice_split p (drop (cond (not t) (1 + position_or_len p bs) 0) (b ∷ bs))) ≡ filter is_word (drop 1 (cond t ([] ∷ slice_split p bs) (onto_first b (slice_split p bs))))) [
      | true ↦ λ e. ap (filter is_word) (slice_split-cons_yes p b bs e)
      | false ↦ λ e. ap (λ xs. filter is_word (slice_split p xs)) (drop_more (position_or_len p bs) b bs) ∙ other_parts p bs
          ∙ ap (λ parts. filter is_word (drop 1 (onto_first b parts))) (sym (first_part p bs))
    ] refl

-- where nothing passes, the front is the whole
pub none_found : {X : Type 0} (p : X → Bool) (xs : List X) → position p xs ≡ None → length xs ≡ position_or_len p xs
none_found p xs none = grind (arith, nat_tests, prefix_len-le-length (λ x. not (p x)) xs)

-- what is left of a text has no word where it is empty
pub words_of-blank : (text rest : List ℕ) → rest ≡ drop (position_or_len (λ b. not (is_blank b)) text) text → (length rest == 0) ≡ true → words_of text ≡ []
words_of-blank text rest is empty = sym (skip is_blank text) ∙ ap words_of (sym is ∙ nil_from_length rest (grind (arith, nat_tests)))

-- whether a text begins with no separator
abbrev begins_well : (ℕ → Bool) → List ℕ → Bool
begins_well p [] = true
begins_well p (b ∷ bs) = not (p b)

-- what is after the separators in front does
skipped : (p : ℕ → Bool) (text : List ℕ) → begins_well p (drop (position_or_len (λ b. not (p b)) text) text) ≡ true
skipped p [] = refl
skipped p (b ∷ bs) =
    elim (p b) as (λ t. p b ≡ t → begins_well p (drop (cond (not (not t)) (1 + position_or_len (λ b. not (p b)) bs) 0) (b ∷ bs)) ≡ true) [
      | true ↦ λ e. ap (begins_well p) (drop_more (position_or_len (λ b. not (p b)) bs) b bs) ∙ skipped p bs
      | false ↦ λ e. ap not e
    ] refl

-- and then its first part is a word, if there is anything
first_is_word : (p : ℕ → Bool) (text : List ℕ) → begins_well p text ≡ true → length text ≢ 0 → is_word (take (position_or_len p text) text) ≡ true
first_is_word p [] well some = absurd (some refl)
first_is_word p (b ∷ bs) well some =
    elim (p b) as (λ t. not t ≡ true → is_word (take (cond (not t) (1 + position_or_len p bs) 0) (b ∷ bs)) ≡ true) [
      | true ↦ λ e. absurd (true≢false (sym e))
      | false ↦ λ e. ap is_word (take_more (position_or_len p bs) b bs) ∙ some_bytes (length (take (position_or_len p bs) bs))
    ] well

kept : (part : List ℕ) (parts : List (List ℕ)) → is_word part ≡ true → filter is_word (part ∷ parts) ≡ part ∷ filter is_word parts
kept part parts passes = ap (λ t. cond t (part ∷ filter is_word parts) (filter is_word parts)) passes

-- or it begins with the first one
pub words_of-first : (text rest : List ℕ) (n : ℕ) → rest ≡ drop (position_or_len (λ b. not (is_blank b)) text) text → (length rest == 0) ≡ false → n ≡ position_or_len is_blank rest
    → words_of text ≡ take n rest ∷ words_of (drop n rest)
words_of-first text rest n is some at =
    sym (skip is_blank text) ∙ ap words_of (sym is) ∙ ap (filter is_word) (first_part is_blank rest)
    ∙ kept (take (position_or_len is_blank rest) rest) (drop 1 (slice_split is_blank rest)) (first_is_word is_blank rest (ap (begins_well is_blank) is ∙ skipped is_blank text) (grind (arith, nat_tests)))
    ∙ ap (λ parts. take (position_or_len is_blank rest) rest ∷ parts) (sym (other_parts is_blank rest))
    ∙ ap (λ k. take k rest ∷ words_of (drop k rest)) (sym at)
