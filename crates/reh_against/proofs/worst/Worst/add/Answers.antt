-- One ledger more is weighed.
use Rattle.std.proofs.Common.{◌∙◌, ◌+◌, ap, refl}
use Rattle.reh_census.specs.Bookies.{bookies_of, is_flagged}
use Rattle.reh_against.specs.Weights.{weight_of}
use Rattle.reh_against.proofs.WeighLaws.{weighs-more}
use Rattle.reh_against.proofs.worst.Worst.add.Goals as goal

pub returns-clause-added : goal.returns-clause-added
returns-clause-added c = λ ids ledgers was.
    weighs-more (bookies_of c.args.stop.now.bookies.now) c.args.stop.now.question.now (is_flagged c.args.stop.now.stopped.now)
    c.args.stop.now.answer.now c.args.self.now c.add_weighed.new.kept.items c.in_ok-weight.weight c.args.id c.args.parts
    (c.in_ok-weight.ensures.weight ∙ ap (weight_of (bookies_of c.args.stop.now.bookies.now) c.args.stop.now.question.now (is_flagged c.args.stop.now.stopped.now) c.args.stop.now.answer.now) c.deref.ensures.value) c.in_ok-add_weighed.ensures.worst c.in_ok-add_weighed.ensures.among ids ledgers was
    (record { kept = c.add_weighed.new.kept; added = c.args.self.now.added + 1 }) refl refl
