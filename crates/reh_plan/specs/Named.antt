-- The bookies that words name.
use Rattle.std.specs.Prelude.{◌≡◌, ℕ, ◌<◌, Bool, true, false, ◌==◌, List, length, take, Some, slice_get}
use Rattle.std.specs.Borrow.{Bor}
use Rattle.std.specs.List.{list_any}
use Rattle.std.specs.Option.{IsSomeAnd, option_map_or}
use Rattle.reh_types.specs.Sets as set
use Rattle.reh_types.specs.Sets.{Set, numbers}
use Rattle.reh_model.specs.Cluster.{bookie_named}

-- whether the word names the bookie
abbrev pub is_name_of : List (List ℕ) → ℕ → Bor (List ℕ) → Bool
is_name_of names bookie word = option_map_or (λ b. b == bookie) (bookie_named names word.now) false

-- whether a word before this one names the bookie
abbrev pub is_named_before : List (List ℕ) → List (Bor (List ℕ)) → ℕ → ℕ → Bool
is_named_before names words number bookie = list_any (is_name_of names bookie) (take number words)

-- none of the first n words names a bookie that one before it names
abbrev pub NameOnce : List (List ℕ) → List (Bor (List ℕ)) → ℕ → Type 0
NameOnce names words n =
    (number bookie : ℕ) (word : Bor (List ℕ)) → number < n → slice_get words number ≡ Some word
    → bookie_named names word.now ≡ Some bookie → is_named_before names words number bookie ≡ false

-- these are the bookies that the words name, none of them twice
pub record AreNamed (names : List (List ℕ)) (words : List (Bor (List ℕ))) (bookies : Set numbers) : Type 0 where
  pub once : NameOnce names words (length words)
  pub all : (bookie : ℕ) → set.contains bookies bookie ≡ list_any (is_name_of names bookie) words

-- the word of that number is the first that names a bookie which one before it names
pub record IsNamedTwice (names : List (List ℕ)) (words : List (Bor (List ℕ))) (number : ℕ) : Type 0 where
  pub once : NameOnce names words number
  pub twice : IsSomeAnd (slice_get words number)
      (λ word. IsSomeAnd (bookie_named names word.now) (λ bookie. is_named_before names words number bookie ≡ true))
