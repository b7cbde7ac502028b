-- The first of those that are passed.
use Rattle.reh_plan.proofs.ChoiceLaws.{IsFirstSoFar}
use Rattle.reh_plan.proofs.workers.Workers.first_candidate.Given as goal

abbrev pub invariant-loop-number : goal.invariant-loop-number
invariant-loop-number l =
    IsFirstSoFar l.self l.state l.place.ledger.now l.place.fragment l.place.index l.number l.first
