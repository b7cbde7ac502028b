-- One file more is read.
use Rattle.std.proofs.Common.{ap, sym, subst, List, length, All, arith}
use Rattle.std.proofs.lemmas.List.{length_push}
use Rattle.std.proofs.lemmas.List.Elements.{All-push}
use Rattle.reh_questions.specs.declared.inputs.FileInput.{FileInput}
use Rattle.reh_questions.specs.Inputs.{IsOfFile}
use Rattle.reh_questions.proofs.inputs.read_of.Goals as goal

pub loop-slot-preserved : goal.loop-slot-preserved
loop-slot-preserved c =
    let read = c.loop-slot.read.items in
    let one = c.in_ok-one.one in
    let more = c.in_ok-push_read.ensures in (
      omega (
        arith,
        ap length more,
        length_push read one,
        length_push c.loop-slot.yielded c.in-Some.slot,
        c.loop-slot.invariant.0,
      ),
      subst (λ (items : List FileInput). All IsOfFile items) (sym more)
          (All-push IsOfFile read one c.loop-slot.invariant.1 c.in_ok-one.ensures),
    )
