-- The first bookie in the rack is found.
use Rattle.std.proofs.Common.{◌∙◌, arith, sym}
use Rattle.reh_inputs.specs.Shown.{is_in}
use Rattle.reh_inputs.proofs.PlaceLaws.{no_position, position_is}
use Rattle.reh_inputs.proofs.cluster.place_of.Goals as goal

pub returns-then-is_in : goal.returns-then-is_in
returns-then-is_in c =
    sym (position_is (is_in c.args.rack.now) c.args.all.now c.loop-place.place c.index-all-place.result c.loop-place.invariant
    c.loop-place-test.true c.index-all-place.is (sym c.is_in.ensures ∙ c.if-is_in.true))

pub returns : goal.returns
returns c =
    sym (no_position (is_in c.args.rack.now) c.args.all.now
    (λ k d less. c.loop-place.invariant k d (omega (arith, less, c.loop-place-test.false))))
