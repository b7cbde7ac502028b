use Rattle.std.proofs.Common.{rules}
use Rattle.reh_tally.proofs.FewLaws.{are_few-tested}
use Rattle.reh_tally.proofs.few.are_few.Goals as goal

pub returns : goal.returns
returns c holders = are_few-tested holders c.args.ledgers.now c.max-most.result (search rules)
