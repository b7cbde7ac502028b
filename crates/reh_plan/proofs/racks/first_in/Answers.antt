-- The first that stands there, or none.
use Rattle.std.proofs.Common.{◌∙◌, sym}
use Rattle.std.specs.Option.{option_map}
use Rattle.reh_plan.specs.Racks.{is_in_rack}
use Rattle.reh_plan.proofs.PlaceLaws.{position_here, position_none}
use Rattle.reh_plan.proofs.racks.first_in.Goals as goal

pub returns-then-is_in_rack : goal.returns-then-is_in_rack
returns-then-is_in_rack c =
    sym (position_here (λ other. is_in_rack c.args.rack.now (option_map (λ n. n.now) other)) c.args.names.now
    c.loop-place.place _ c.loop-place-test.true c.loop-place.invariant (sym c.is_in_rack.ensures ∙ c.if-is_in_rack.true))

pub returns : goal.returns
returns c =
    sym (position_none (λ other. is_in_rack c.args.rack.now (option_map (λ n. n.now) other)) c.args.names.now
    c.loop-place.place c.loop-place-test.false c.loop-place.invariant)
