-- The members that are passed.
use Rattle.std.proofs.Common.{◌≡◌, ◌≤◌, All, take}
use Rattle.reh_tally.specs.declared.cursors.Cursor.{Cursor}
use Rattle.reh_tally.specs.Cursors.{IsCursor, members_of}
use Rattle.reh_tally.proofs.cursors.cursors_of.Given as goal

abbrev pub invariant-loop-bookie : goal.invariant-loop-bookie
invariant-loop-bookie l = record {
  members : members_of l.cursors.items ≡ take l.bookie-index l.members;
  told : All (IsCursor l.ledger l.first) l.cursors.items;
  none : All (λ (c : Cursor). c.stretch.end ≤ l.first) l.cursors.items;
}
