-- The numbers of the racks, by their names.
use Rattle.std.proofs.Common.{◌∙◌, ap, sym, List, Option, map, ℕ}
use Rattle.std.specs.Prelude.{if◌then◌else◌}
use Rattle.std.specs.Option.{option_map}
use Rattle.reh_plan.specs.Racks.{Racks}
use Rattle.reh_plan.proofs.RacksLaws.{any_named, numbers_named}
use Rattle.reh_plan.proofs.racks.Racks.of.Goals as goal

pub returns : goal.returns
returns c =
    let names : List (Option (List ℕ)) = map (option_map (λ name. name.now)) c.args.names.now in
    let numbers = c.in_ok-numbers_of.ensures ∙ numbers_named (λ name. name.now) c.args.names.now in
    let least = c.least_of.ensures ∙ ap (λ any. if any then c.args.least else 0) (sym (any_named (λ name. name.now) c.args.names.now)) in
    λ i. let r : Racks = record { numbers = numbers i; least = least i } in r
