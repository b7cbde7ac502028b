-- It is the census of all lines of the bytes that were read.
use Rattle.std.proofs.Common.{Some, refl}
use Rattle.reh_questions.proofs.inputs.read_stream.Goals as goal

pub returns : goal.returns
returns g c = c.of_inventory.ensures c.args.strict (Some c.args.bytes.now) c.in_ok-counted.ensures (λ stream. refl)
