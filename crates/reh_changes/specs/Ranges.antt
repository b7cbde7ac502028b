-- The ranges of the entries of a word that pass a test, rising, each as long as it can be: the first and the last entry
-- of each.
use Rattle.std.specs.Prelude.{ℕ, zero, suc, ◌+◌, ◌*◌, ◌-◌, ◌<◌, ◌≤◌, ◌==◌, Bool, if◌then◌else◌, ◌&&◌, nat_le, List}
use Rattle.std.specs.Prelude.{[], ◌∷◌, ◌++◌, map, Option, None, Some, All, codes}
use Rattle.std.specs.List.{list_any}
use Rattle.std.specs.Fmt.{decimal}

-- those of so many entries from e on, where a range is open since its first entry, if one is
unfoldable pub ranges_on : (ℕ → Bool) → Option ℕ → ℕ → ℕ → List (ℕ × ℕ)
ranges_on test None e zero = []
ranges_on test (Some first) e zero = (first, e - 1) ∷ []
ranges_on test None e (suc n) =
    if test e then ranges_on test (Some e) (e + 1) n else ranges_on test None (e + 1) n
ranges_on test (Some first) e (suc n) =
    if test e then ranges_on test (Some first) (e + 1) n else (first, e - 1) ∷ ranges_on test None (e + 1) n

-- those of the 64 entries of the word of that number
abbrev pub ranges_in : ℕ → (ℕ → Bool) → List (ℕ × ℕ)
ranges_in number test = ranges_on test None (64 * number) 64

-- whether an entry is in one of the ranges
abbrev pub is_in_one : List (ℕ × ℕ) → ℕ → Bool
is_in_one ranges e = list_any (λ range. nat_le range.0 e && nat_le e range.1) ranges

-- Each range ends no earlier than it begins, and between its end and each later one there is an entry.
abbrev pub AreApart : List (ℕ × ℕ) → Type 0
AreApart [] = Unit {0}
AreApart (range ∷ ranges) =
    (range.0 ≤ range.1) × All (λ later. range.1 + 1 < later.0) ranges × AreApart ranges

-- a range after a sign: `+3`, or `+0-2`
abbrev pub range_word : List ℕ → ℕ × ℕ → List ℕ
range_word sign range =
    if range.0 == range.1 then sign ++ decimal range.0
    else sign ++ (decimal range.0 ++ (codes "-" ++ decimal range.1))

abbrev pub range_words : List ℕ → List (ℕ × ℕ) → List (List ℕ)
range_words sign ranges = map (range_word sign) ranges
