-- It is what the picture of that state shows.
use Rattle.std.proofs.Common.{inl, subst, sym}
use Rattle.reh_inputs.specs.Inputs.{IsRead}
use Rattle.reh_inputs.specs.declared.inputs.Input.{Input}
use Rattle.reh_questions.proofs.inputs.end_of.Goals as goal

pub returns-in-Ok-clause-of : goal.returns-in-Ok-clause-of
returns-in-Ok-clause-of c = inl (c.in_ok-file-in-Ok.ensures.of c.as_bytes.result.now c.in-Ok.ensures)

pub returns-in-Ok-clause-end : goal.returns-in-Ok-clause-end
returns-in-Ok-clause-end c = record {
  text = c.as_bytes.result.now;
  is_after = rw c.as_bytes.ensures.value c.in_ok-text.ensures;
  is_read =
      subst (λ (input : Input). IsRead c.as_bytes.result.now input) (sym c.in_ok-file-in-Ok.ensures.input) c.in-Ok.ensures;
}
