use Rattle.std.proofs.Common.{inl, inr, arith}
use Rattle.std.proofs.lemmas.Grind.{common_steps}
use Rattle.reh_lines.proofs.HeadLaws.{passes_at}
use Rattle.reh_lines.proofs.inputs.split_input.Goals.{else-b-eq10-via-else-b-eq10, else-b-eq10-via-then-b-eq10+in-None-1}
use Rattle.reh_lines.proofs.inputs.split_input.Goals as goal

pub loop-i-preserved : goal.loop-i-preserved
loop-i-preserved c =
    elim c.else-b-eq10.branch [
      | else-b-eq10-via-else-b-eq10 w ↦
          passes_at c.args.input.now c.loop-i.i c.loop-i-test.true (inl w.if-b-eq10.false) c.loop-i.invariant
      | else-b-eq10-via-then-b-eq10+in-None-1 w ↦
          passes_at c.args.input.now c.loop-i.i c.loop-i-test.true (inr (grind (arith, common_steps))) c.loop-i.invariant
    ]
