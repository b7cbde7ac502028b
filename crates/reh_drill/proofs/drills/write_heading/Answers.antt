use Rattle.std.proofs.Common.{codes, decimal, ◌++◌}
use Rattle.reh_drill.proofs.Writing.{writes_failed, writes_then}
use Rattle.reh_drill.proofs.drills.write_heading.Goals as goal

pub returns-in_err-write_text-clause-written : goal.returns-in_err-write_text-clause-written
returns-in_err-write_text-clause-written g c =
    writes_failed _ c.from_residual.result c.in_err-write_text.field-0.0 (codes "operator ")
    (decimal c.args.number ++ codes "\n") _ _ c.from_residual.ensures.1 c.in_err-write_text.ensures.written

pub returns-in_err-write_text-2-clause-written : goal.returns-in_err-write_text-2-clause-written
returns-in_err-write_text-2-clause-written g c =
    let digits = rw (c.as_bytes.ensures.value, c.format.ensures.text) at c.in_err-write_text-2.ensures.written in
    writes_then c.from_residual-in_err-write_text-2.result (codes "operator ") (decimal c.args.number ++ codes "\n") _ _ _
    c.in_ok-write_text.ensures.written
    (writes_failed _ c.from_residual-in_err-write_text-2.result c.in_err-write_text-2.field-0.0 (decimal c.args.number)
    (codes "\n") _ _ c.from_residual-in_err-write_text-2.ensures.1 digits)

pub returns-clause-written : goal.returns-clause-written
returns-clause-written g c =
    let digits = rw (c.as_bytes.ensures.value, c.format.ensures.text) at c.in_ok-write_text-2.ensures.written in
    writes_then c.write_text-3.result (codes "operator ") (decimal c.args.number ++ codes "\n") _ _ _
    c.in_ok-write_text.ensures.written
    (writes_then c.write_text-3.result (decimal c.args.number) (codes "\n") _ _ _ digits c.write_text-3.ensures.written)
