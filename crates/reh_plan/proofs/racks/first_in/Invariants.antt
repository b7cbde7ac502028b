-- None of those that are passed stands in the rack.
use Rattle.std.proofs.Common.{◌≡◌, false, take}
use Rattle.std.specs.List.{list_any}
use Rattle.std.specs.Option.{option_map}
use Rattle.reh_plan.specs.Racks.{is_in_rack}
use Rattle.reh_plan.proofs.racks.first_in.Given as goal

abbrev pub invariant-loop-place : goal.invariant-loop-place
invariant-loop-place l = list_any (λ other. is_in_rack l.rack (option_map (λ n. n.now) other)) (take l.place l.names) ≡ false
