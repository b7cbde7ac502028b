-- It is what the bytes show.
use Rattle.std.proofs.Common.{inl}
use Rattle.reh_questions.proofs.inputs.read_whole.Goals as goal

pub returns-in_ok-file-in-Ok : goal.returns-in_ok-file-in-Ok
returns-in_ok-file-in-Ok c = inl (c.in_ok-file-in-Ok.ensures.of c.args.bytes.now c.in-Ok.ensures)
