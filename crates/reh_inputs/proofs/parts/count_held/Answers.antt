-- They are within all entries.
use Rattle.std.proofs.Common.{ap, arith}
use Rattle.reh_census.specs.declared.classes.Counted.{Counted}
use Rattle.reh_inputs.specs.Gathered.{is_held}
use Rattle.reh_inputs.proofs.RangeLaws.{counted-fits}
use Rattle.reh_inputs.proofs.parts.count_held.Goals as goal

pub overflow_add-held : goal.overflow_add-held
overflow_add-held c =
    omega (
      arith,
      c.requires,
      c.loop-counted.invariant,
      ap (λ (x : Counted). x.count) c.counted-item.is,
      counted-fits c.args.entries.now is_held c.loop-counted.counted-index c.counted-item.result c.loop-counted-test.true,
    )
