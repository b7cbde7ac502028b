-- The entries of a word, one after another: the range that is open before one, since its first entry, and after it.
use Rattle.std.specs.Prelude.{ℕ, ◌-◌, Bool, true, false, List, [], ◌∷◌, Option, None, Some}

-- the range that ends before the entry, if one is open and the entry isn't there
abbrev pub ended : Option ℕ → ℕ → Bool → List (ℕ × ℕ)
ended None e there = []
ended (Some first) e true = []
ended (Some first) e false = (first, e - 1) ∷ []

-- the range that is open after the entry
abbrev pub open_after : Option ℕ → ℕ → Bool → Option ℕ
open_after None e true = Some e
open_after (Some first) e true = Some first
open_after since e false = None
