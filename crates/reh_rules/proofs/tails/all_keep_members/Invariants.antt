-- The write sets that are passed keep enough members.
use Rattle.std.proofs.Common.{◌≡◌, ◌<◌, ℕ, true}
use Rattle.reh_census.specs.Bookies.{bookies_of, is_flagged}
use Rattle.reh_census.specs.Tails.{keeps_members}
use Rattle.reh_rules.proofs.tails.all_keep_members.Given as goal

abbrev pub invariant-loop-entry : goal.invariant-loop-entry
invariant-loop-entry l =
    (e : ℕ) → e < l.entry → keeps_members (bookies_of l.bookies) l.question (is_flagged l.stopped) l.tail e ≡ true
