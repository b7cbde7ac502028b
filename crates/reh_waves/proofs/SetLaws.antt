-- Sets of bookies, and lists of registered ones.
use Rattle.std.proofs.Common.{◌≡◌, ◌∙◌, ◌<◌, ◌≤◌, ◌-◌, ℕ, Bool, true, false, arith, All, List, Option, map, length, ap, sym, true≢false, inl, inr}
use Rattle.std.specs.Prelude.{None, ◌==◌}
use Rattle.std.specs.Option.{option_map_or}
use Rattle.std.proofs.lemmas.Bool.{cases_lt}
use Rattle.std.proofs.lemmas.Option.{slice_get_past}
use Rattle.reh_census.specs.declared.bookies.Bookie.{Bookie}
use Rattle.std.proofs.Math.ListN.{get_or-eq_default}
use Rattle.std.proofs.lemmas.List.FromFn.{get_or-map-range_with_len, length-map-range_with_len}
use Rattle.reh_census.specs.Bookies.{bookies_of, is_flagged}
use Rattle.reh_census.specs.Striping.{range}

-- a registered bookie has a number
pub registered-within : (bookies : List Bookie) (b : ℕ) → (bookies_of bookies).is_registered b ≡ true → b < length bookies
registered-within bookies b is =
    elim (cases_lt b (length bookies)) [
      | inl within ↦ within
      | inr past ↦
          absurd (true≢false (sym is ∙ ap (λ found. option_map_or (λ (bookie : Bookie). bookie.is_registered) found false) (slice_get_past bookies b past)))
    ]

pub all-within : (bookies : List Bookie) (members : List ℕ) → All (λ b. (bookies_of bookies).is_registered b ≡ true) members
    → All (λ b. b < length bookies) members
all-within bookies members each = λ k d within. registered-within bookies _ (each k d within)

-- flags of all bookies
pub flags-within : (f : ℕ → Bool) (n b : ℕ) → (n ≤ b → f b ≡ false) → is_flagged (map f (range 0 n)) b ≡ f b
flags-within f n b fails =
    elim (cases_lt b n) [
      | inl below ↦ get_or-map-range_with_len f 0 (n - 0) b b false (omega (arith, below)) (omega arith)
      | inr past ↦
          get_or-eq_default (map f (range 0 n)) false (omega (arith, past, length-map-range_with_len f 0 (n - 0))) ∙ sym (fails past)
    ]

-- the bookies of a rack have numbers
pub rack-within : (bookies : List Bookie) (rack b : ℕ) → length bookies ≤ b
    → option_map_or (λ (r : ℕ). r == rack) ((bookies_of bookies).rack_of b) false ≡ false
rack-within bookies rack b past =
    ap (λ (found : Option Bookie). option_map_or (λ (r : ℕ). r == rack) (option_map_or (λ (bookie : Bookie). bookie.rack) found None) false)
    (slice_get_past bookies b past)
