-- The bookie has all that is striped onto the indexes that are passed, where it is the member.
use Rattle.std.proofs.Common.{◌≡◌, ◌<◌, ◌&&◌, ℕ}
use Rattle.std.specs.Prelude.{false}
use Rattle.reh_known.specs.Known.{is_member_at, lacks_at}
use Rattle.reh_known.proofs.members.lacks_in.Given as goal

abbrev pub invariant-loop-index : goal.invariant-loop-index
invariant-loop-index l = (i : ℕ) → i < l.index
    → (is_member_at l.ledger.metadata l.number i l.bookie && lacks_at l.state l.bookie l.ledger l.number i) ≡ false
