use Rattle.std.proofs.Common.{rules}
use Rattle.reh_tally.proofs.FewLaws.{are_few_counts-tested}
use Rattle.reh_tally.proofs.counts.are_few_counts.Goals as goal

pub returns : goal.returns
returns c = are_few_counts-tested c.args.entries.now c.args.tails.now c.args.ensembles.now c.max-most.result (search rules)
