-- What the holdings tell that are passed.
use Rattle.std.proofs.Common.{◌≡◌, map, take}
use Rattle.reh_inputs.specs.Ledgers.{content_by}
use Rattle.reh_inputs.proofs.ledgers.contents_of.Given as goal

abbrev pub invariant-loop-holding : goal.invariant-loop-holding
invariant-loop-holding l =
    l.contents.items ≡ map (λ h. content_by l.numbers l.reading h.now) (take l.holding-index l.held)
