-- Those of the bookies that are passed.
use Rattle.std.proofs.Common.{◌≡◌, map, position, take, unwrap_or}
use Rattle.std.specs.Option.{option_map, option_map_or}
use Rattle.reh_types.specs.declared.limits.TheConstants.{MAX_BOOKIES}
use Rattle.reh_plan.specs.Racks.{is_in_rack}
use Rattle.reh_plan.proofs.racks.numbers_of.Given as goal

abbrev pub invariant-loop-name : goal.invariant-loop-name
invariant-loop-name l =
    l.numbers.items
    ≡ map (λ name. option_map_or
    (λ rack. unwrap_or (position (λ other. is_in_rack rack.now (option_map (λ n. n.now) other)) l.names) MAX_BOOKIES)
    name MAX_BOOKIES) (take l.name-index l.names)
