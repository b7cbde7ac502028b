-- It is the census of the lines that were read of a file.
use Rattle.std.proofs.Common.{None, sym}
use Rattle.std.proofs.lemmas.Bool.{true≢false}
use Rattle.reh_questions.proofs.inputs.read_inventory.Goals as goal

pub returns : goal.returns
returns g c =
    c.of_inventory.ensures c.args.strict None c.in_ok-counted.ensures (λ stream. absurd (true≢false (sym stream)))
