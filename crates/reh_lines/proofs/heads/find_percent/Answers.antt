use Rattle.std.proofs.Common.{◌∙◌, arith, rules, sym}
use Rattle.reh_lines.proofs.HeadLaws.{found_percent, past_other, past_byte}
use Rattle.reh_lines.proofs.heads.find_percent.Goals as goal

pub loop-at-preserved-then-input-end-ne10 : goal.loop-at-preserved-then-input-end-ne10
loop-at-preserved-then-input-end-ne10 c = record {
  order = omega arith;
  from = omega arith;
  within = omega arith;
  picture = c.loop-at.invariant.picture;
  quiet = past_byte c.args.input.now c.loop-at.line c.loop-at.at c.loop-at.invariant.order (omega arith)
      c.if-input-end-ne10.true c.loop-at.invariant.quiet;
}

pub returns-then-is_percent-clause-found : goal.returns-then-is_percent-clause-found
returns-then-is_percent-clause-found c = (
  found_percent c.args.input.now c.loop-at.line c.loop-at.at c.saturating_sub.result c.loop-at.invariant.order
      (omega arith) c.if-input-end-ne10.false c.loop-at.invariant.picture c.loop-at.invariant.quiet
      (sym c.is_percent.ensures ∙ c.if-is_percent.true) c.saturating_sub.ensures,
  omega arith,
  omega arith,
  omega arith,
)

pub loop-at-preserved : goal.loop-at-preserved
loop-at-preserved c = record {
  order = omega arith;
  from = omega arith;
  within = omega arith;
  picture = past_other c.args.input.now c.loop-at.line c.loop-at.at c.loop-at.invariant.order (omega arith)
      c.if-input-end-ne10.false c.loop-at.invariant.picture c.loop-at.invariant.quiet
      (sym c.is_percent.ensures ∙ c.if-is_percent.false);
  quiet = search rules;
}
