-- Lines and names printed one after another.
use Rattle.std.proofs.Common.{◌≡◌, ℕ, ◌+◌, ◌<◌, true, false, cond, List, [], ◌∷◌, ◌++◌, length, map, drop, unwrap_or, slice_get, slice_index_or, refl, sym, ap, ◌∙◌}
use Rattle.std.specs.Prelude.{filter, codes}
use Rattle.std.specs.List.{enumerate_from}
use Rattle.std.proofs.lemmas.Grind.{flat_map-append}
use Rattle.std.proofs.lemmas.List.{drop_more}
use Rattle.std.proofs.lemmas.Option.{slice_get-get_or}
use mathlib.Core.List.{append_assoc}
use Rattle.reh_types.specs.Sets as set
use Rattle.reh_types.specs.Sets.{Set, numbers}
use Rattle.reh_model.specs.Cluster.{Cluster}
use Rattle.reh_commands.specs.Reports.{line_at}
use Rattle.reh_model.specs.Metadata.{Metadata, Fragment, stop_of}
use Rattle.reh_commands.specs.Texts.{bookie_line, fragment_line, text_of, behind_spaces, name_of}
use Rattle.std.specs.Fmt.{decimal}

-- the text of lists of lines, one list after the other
pub text_of-append : (xs ys : List (List ℕ)) → text_of (xs ++ ys) ≡ text_of xs ++ text_of ys
text_of-append xs ys = flat_map-append (λ line. line ++ codes "\n") xs ys

-- one more element is printed
pub printed_more : {X : Type 0} (print : List X → List ℕ) (one : X → List ℕ) → ((x : X) (xs : List X) → print (x ∷ xs) ≡ one x ++ print xs)
    → (text : List ℕ) (xs : List X) (i : ℕ) (x : X) → i < length xs → x ≡ slice_index_or xs i x → (text ++ one x) ++ print (drop (i + 1) xs) ≡ text ++ print (drop i xs)
printed_more print one step text xs i x within is =
    append_assoc text (one x) (print (drop (i + 1) xs))
    ∙ ap (λ t. text ++ t) (ap (λ y. one y ++ print (drop (i + 1) xs)) is ∙ sym (step (slice_index_or xs i x) (drop (i + 1) xs)) ∙ ap print (sym (drop_more xs i x within)))

-- one more bookie of a report
pub bookie_more : (s : Cluster) (text : List ℕ) (i : ℕ) (names : List (List ℕ)) → i < length names
    → (text ++ line_at s i (slice_get names i)) ++ text_of (map (λ place. bookie_line s place.0 place.1) (enumerate_from (i + 1) (drop (i + 1) names)))
    ≡ text ++ text_of (map (λ place. bookie_line s place.0 place.1) (enumerate_from i (drop i names)))
bookie_more s text i names within =
    append_assoc text (line_at s i (slice_get names i)) (text_of (map (λ place. bookie_line s place.0 place.1) (enumerate_from (i + 1) (drop (i + 1) names))))
    ∙ ap (λ o. text ++ (line_at s i o ++ text_of (map (λ place. bookie_line s place.0 place.1) (enumerate_from (i + 1) (drop (i + 1) names))))) (slice_get-get_or names i [] within)
    ∙ ap (λ ns. text ++ text_of (map (λ place. bookie_line s place.0 place.1) (enumerate_from i ns))) (sym (drop_more names i [] within))

-- the names of a set's bookies among names, of which the first is the i-th
abbrev pub members_from : Set numbers → ℕ → List (List ℕ) → List ℕ
members_from bookies i names = behind_spaces (map (λ place. place.1) (filter (λ place. set.contains bookies place.0) (enumerate_from i names)))

-- a name is printed, if its bookie is in the set
member_first : (bookies : Set numbers) (i : ℕ) (name : List ℕ) (names : List (List ℕ)) → cond (set.contains bookies i) (codes " " ++ name) [] ++ members_from bookies (i + 1) names ≡ members_from bookies i (name ∷ names)
member_first bookies i name names =
    let others = filter (λ place. set.contains bookies place.0) (enumerate_from (i + 1) names) in
    elim (set.contains bookies i) as (λ t. cond t (codes " " ++ name) [] ++ behind_spaces (map (λ place. place.1) others) ≡ behind_spaces (map (λ place. place.1) (cond t ((i, name) ∷ others) others))) [ true ↦ refl | false ↦ refl ]

-- one more name, if its bookie is in the set
pub member_more : (bookies : Set numbers) (text : List ℕ) (i : ℕ) (names : List (List ℕ)) → i < length names
    → (text ++ cond (set.contains bookies i) (codes " " ++ name_of names i) []) ++ members_from bookies (i + 1) (drop (i + 1) names) ≡ text ++ members_from bookies i (drop i names)
member_more bookies text i names within =
    append_assoc text (cond (set.contains bookies i) (codes " " ++ name_of names i) []) (members_from bookies (i + 1) (drop (i + 1) names))
    ∙ ap (λ o. text ++ (cond (set.contains bookies i) (codes " " ++ unwrap_or o (decimal i)) [] ++ members_from bookies (i + 1) (drop (i + 1) names))) (slice_get-get_or names i [] within)
    ∙ ap (λ t. text ++ t) (member_first bookies i (slice_index_or names i []) (drop (i + 1) names) ∙ ap (members_from bookies i) (sym (drop_more names i [] within)))

-- the lines of fragments, of which the first is the f-th
abbrev pub fragments_from : List (List ℕ) → Metadata → ℕ → List Fragment → List ℕ
fragments_from names m f fragments = text_of (map (λ place. fragment_line names place.0 place.1 (stop_of m place.0)) (enumerate_from f fragments))

-- one more fragment
pub fragment_more : (names : List (List ℕ)) (m : Metadata) (text : List ℕ) (f : ℕ) (fragments : List Fragment) (fragment : Fragment) → f < length fragments → fragment ≡ slice_index_or fragments f fragment
    → (text ++ (fragment_line names f fragment (stop_of m f) ++ codes "\n")) ++ fragments_from names m (f + 1) (drop (f + 1) fragments) ≡ text ++ fragments_from names m f (drop f fragments)
fragment_more names m text f fragments fragment within is =
    append_assoc text (fragment_line names f fragment (stop_of m f) ++ codes "\n") (fragments_from names m (f + 1) (drop (f + 1) fragments))
    ∙ ap (λ x. text ++ ((fragment_line names f x (stop_of m f) ++ codes "\n") ++ fragments_from names m (f + 1) (drop (f + 1) fragments))) is
    ∙ ap (λ t. text ++ fragments_from names m f t) (sym (drop_more fragments f fragment within))
