-- The racks are those of as many bookies as there can be.
use Rattle.std.proofs.Common.{◌≡◌, ◌∙◌, ℕ, List, Option, ap, arith, length, map, min, subst, take}
use Rattle.std.specs.Prelude.{IfOk}
use Rattle.std.specs.Option.{option_map}
use Rattle.std.proofs.lemmas.List.{take_min}
use Rattle.reh_types.specs.declared.limits.TheConstants.{MAX_BOOKIES}
use Rattle.reh_picture.specs.Marks.{BookieMarks}
use Rattle.reh_plan.specs.Racks.{racks_named}
use Rattle.reh_inventory_plan.proofs.pictures.racks_of.Goals as goal

pub returns : goal.returns
returns c =
    let marks : List BookieMarks = c.args.marks.now in
    let racks : List BookieMarks → List (Option (List ℕ)) = map (λ m. m.rack) in
    let number : c.loop-number.number ≡ min MAX_BOOKIES (length marks) =
    omega (arith, c.min-number-end.ensures, c.loop-number-test.false, c.loop-number.auto.number-end) in
    subst (λ (names : List (Option (List ℕ))). IfOk c.of.result (λ r. r ≡ racks_named names c.args.least))
    (ap (map (option_map (λ name. name.now))) c.deref.ensures.value ∙ c.loop-number.invariant.racks
    ∙ ap (λ n. racks (take n marks)) number ∙ ap racks (take_min MAX_BOOKIES marks))
    c.of.ensures
