-- The bookies that words name, by themselves or by their racks.
use Rattle.std.specs.Prelude.{◌≡◌, ℕ, Bool, false, true, Some, ◌||◌, ◌&&◌, ◌==◌, nat_lt, if◌then◌else◌, All, List, [], ◌∷◌, is_some, length, map, position, slice_get, take}
use Rattle.std.specs.Borrow.{Bor}
use Rattle.std.specs.List.{flat_map, list_all, list_any, slice_split}
use Rattle.std.specs.Option.{option_map_or}
use Rattle.std.specs.Str.{bytes_eq}
use Rattle.reh_inputs.specs.Cluster.{Cluster}
use Rattle.reh_inputs.specs.Shown.{Shown, is_in}

-- whether one of the words is this name
abbrev pub is_word : List (Bor (List ℕ)) → List ℕ → Bool
is_word words name = list_any (λ word. bytes_eq word.now name) words

-- whether the word is a bookie's name
abbrev pub is_name : List (List ℕ) → List ℕ → Bool
is_name names word = is_some (position (bytes_eq word) names)

-- what the words say
abbrev pub texts : List (Bor (List ℕ)) → List (List ℕ)
texts words = map (λ word. word.now) words

-- what stands between the commas of a word
abbrev pub parts_of : List ℕ → List (List ℕ)
parts_of word = slice_split (λ b. b == 44) word

-- the names that a word gives: it alone, where it is a bookie's name, and else each between its commas
abbrev pub names_of : List (List ℕ) → List ℕ → List (List ℕ)
names_of names word = if is_name names word then word ∷ [] else parts_of word

-- the names that the words give
abbrev pub names_in : List (List ℕ) → List (Bor (List ℕ)) → List (List ℕ)
names_in names words = flat_map (λ word. names_of names word.now) words

-- whether the word is a bookie's name, and a list of bookies' names too
abbrev pub is_ambiguous : List (List ℕ) → List ℕ → Bool
is_ambiguous names word =
    is_name names word && (nat_lt 1 (length (parts_of word)) && list_all (is_name names) (parts_of word))

-- no word can be read in two ways
abbrev pub AreClear : List (List ℕ) → List (Bor (List ℕ)) → Type 0
AreClear names words = All (λ word. is_ambiguous names word.now ≡ false) words

-- this word can be read in two ways, and no word before it can
pub record IsFirstAmbiguous (names : List (List ℕ)) (words : List (Bor (List ℕ))) (word : Bor (List ℕ)) : Type 0 where
  pub number : ℕ
  pub is : slice_get words number ≡ Some word
  pub ambiguous : is_ambiguous names word.now ≡ true
  pub before : AreClear names (take number words)

-- whether the word of that number is a word before it, too
abbrev pub is_repeated : List (Bor (List ℕ)) → ℕ → Bool
is_repeated words number = option_map_or (λ word. is_word (take number words) word.now) (slice_get words number) false

-- whether the bookie is in one of the racks
abbrev pub is_in_one : List (Bor (List ℕ)) → Shown → Bool
is_in_one racks bookie = list_any (λ rack. is_in rack.now bookie) racks

-- whether the words name the bookie of that number, or its rack
abbrev pub is_stopped : Cluster → List (Bor (List ℕ)) → List (Bor (List ℕ)) → ℕ → Bool
is_stopped cluster words racks bookie =
    option_map_or (is_word words) (slice_get cluster.names bookie) false
    || option_map_or (is_in_one racks) (slice_get cluster.shown bookie) false
