-- Each that is kept was kept before.
use Rattle.reh_against.specs.Weighed.{kept_by}
use Rattle.reh_against.proofs.WorstLaws.{among-kept}
use Rattle.reh_against.proofs.worst.add_weighed.Goals as goal

pub returns-then-weight-eq0-clause-among : goal.returns-then-weight-eq0-clause-among
returns-then-weight-eq0-clause-among c =
    among-kept c.args.kept.now.items (kept_by c.args.weight c.args.id c.args.place c.args.parts)
