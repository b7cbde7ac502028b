-- What a desk answered that closed.
use Rattle.std.proofs.Common.{string_bytes}
use Rattle.reh_drill.specs.declared.faults.DrillFault.TheVariants.{WriteFault, NoMemory}
use Rattle.reh_drill.proofs.Drilled.{lost_as, closed_short, closed_untold, closed_whole}
use Rattle.reh_drill.proofs.drills.end_closed.Goals as goal

pub returns-in_err-text-in-Ok-clause-ends : goal.returns-in_err-text-in-Ok-clause-ends
returns-in_err-text-in-Ok-clause-ends g c =
    closed_untold c.args.closed c.in-Ok.closed c.from_residual.result _ c.in-Ok.is c.from_residual.ensures.1

pub returns-in_err-text-in-Ok-clause-write : goal.returns-in_err-text-in-Ok-clause-write
returns-in_err-text-in-Ok-clause-write g c =
    lost_as _ NoMemory c.from_residual.result c.from_residual.ensures.1 c.requires

pub returns-in_err-write_text-in-Ok-clause-ends : goal.returns-in_err-write_text-in-Ok-clause-ends
returns-in_err-write_text-in-Ok-clause-ends g c =
    closed_short c.args.closed c.in-Ok.closed (string_bytes c.in_ok-text-in-Ok.text) c.in_err-write_text-in-Ok.field-0.0
    c.from_residual-in_err-write_text-in-Ok.result _ _ c.in-Ok.is c.in_ok-text-in-Ok.ensures
    (rw c.as_bytes.ensures.value at c.in_err-write_text-in-Ok.ensures.written)
    c.from_residual-in_err-write_text-in-Ok.ensures.1

pub returns-in_err-write_text-in-Ok-clause-write : goal.returns-in_err-write_text-in-Ok-clause-write
returns-in_err-write_text-in-Ok-clause-write g c =
    lost_as _ WriteFault c.from_residual-in_err-write_text-in-Ok.result
    c.from_residual-in_err-write_text-in-Ok.ensures.1 c.in_err-write_text-in-Ok.ensures.failed

pub returns-in_ok-write_text-in-Ok-clause-ends : goal.returns-in_ok-write_text-in-Ok-clause-ends
returns-in_ok-write_text-in-Ok-clause-ends g c =
    closed_whole c.args.closed c.in-Ok.closed (string_bytes c.in_ok-text-in-Ok.text) _ _ c.in-Ok.is c.in_ok-text-in-Ok.ensures
    (rw c.as_bytes.ensures.value at c.in_ok-write_text-in-Ok.ensures.written)
