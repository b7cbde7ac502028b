-- The numbers of racks.
use Rattle.std.proofs.Common.{◌≡◌, ◌∙◌, ◌<◌, ◌-◌, ◌&&◌, ℕ, Bool, true, false, List, Option, length, position, ap, sym, refl, true≢false, inl, inr, arith}
use Rattle.std.specs.Prelude.{◌==◌, filter}
use Rattle.std.specs.List.{list_any}
use Rattle.std.specs.Option.{option_map_or}
use Rattle.std.proofs.lemmas.Bool.{cases_lt}
use Rattle.std.proofs.lemmas.Bool.Decides.{nat_tests}
use Rattle.std.proofs.lemmas.Option.{slice_get_past}
use Rattle.reh_census.specs.Copies.{is_in}
use Rattle.reh_census.specs.Striping.{range}
use Rattle.reh_census.proofs.RuleLaws.{any-filter}
use Rattle.reh_inputs.specs.Cluster.{is_first_in_rack}
use Rattle.reh_inputs.specs.Shown as shown
use Rattle.reh_inputs.specs.Shown.{Shown}
use Rattle.reh_rules.proofs.RangeTests.{one_passes}

-- who is first in a rack is a bookie
first-within : (all : List Shown) (b : ℕ) → is_first_in_rack all b ≡ true → b < length all
first-within all b is =
    elim (cases_lt b (length all)) [
      | inl within ↦ within
      | inr past ↦
          absurd (true≢false (sym is ∙ ap (λ (found : Option Shown).
          option_map_or
          (λ (one : Shown). option_map_or (λ rack. option_map_or (λ place. place == b) (position (shown.is_in rack) all) false) one.rack false)
          found false)
          (slice_get_past all b past)))
    ]

same-number : (b : ℕ) → (b == b) ≡ true
same-number b = grind (arith, nat_tests)

never : (x : Bool) → (x && false) ≡ false
never true = refl
never false = refl

-- among the numbers of all racks are those of the bookies that are first in one
pub is_in-first : (all : List Shown) (b : ℕ)
    → is_in (filter (is_first_in_rack all) (range 0 (length all))) b ≡ is_first_in_rack all b
is_in-first all b =
    let there : Bool = list_any (λ c. c == b) (range 0 (length all)) in
    any-filter (is_first_in_rack all) b (range 0 (length all))
    ∙ elim (is_first_in_rack all b) as (λ first. is_first_in_rack all b ≡ first → (there && first) ≡ first) [
      | true ↦ λ is.
          ap (λ x. x && true)
          (one_passes (λ c. c == b) 0 (length all - 0) b (omega arith) (omega (arith, first-within all b is)) (same-number b))
      | false ↦ λ _. never there
    ] refl
