-- The write sets that are passed have enough.
use Rattle.std.proofs.Common.{◌≡◌, ◌<◌, ℕ, false}
use Rattle.reh_census.specs.Bookies.{bookies_of, is_flagged}
use Rattle.reh_census.specs.Tails.{lacks_acks}
use Rattle.reh_rules.proofs.tails.some_lacks_acks.Given as goal

abbrev pub invariant-loop-entry : goal.invariant-loop-entry
invariant-loop-entry l =
    (e : ℕ) → e < l.entry → lacks_acks (bookies_of l.bookies) (is_flagged l.stopped) l.tail e ≡ false
