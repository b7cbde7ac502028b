-- The bookie has all of the fragments that are passed.
use Rattle.std.proofs.Common.{◌≡◌, ◌<◌, ◌&&◌, ℕ}
use Rattle.std.specs.Prelude.{false}
use Rattle.reh_known.specs.Known.{is_member_at, lacks_at}
use Rattle.reh_known.proofs.members.lacks_share.Given as goal

abbrev pub invariant-loop-number : goal.invariant-loop-number
invariant-loop-number l = (f i : ℕ) → f < l.number → i < l.ledger.metadata.size
    → (is_member_at l.ledger.metadata f i l.bookie && lacks_at l.state l.bookie l.ledger f i) ≡ false
