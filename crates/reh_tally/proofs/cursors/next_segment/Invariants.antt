-- The cursors that are moved, from the last.
use Rattle.std.proofs.Common.{◌≡◌, ◌<◌, ◌≤◌, ◌⊎◌, All, drop, length}
use Rattle.std.specs.Prelude.{Any}
use Rattle.reh_tally.specs.declared.cursors.Cursor.{Cursor}
use Rattle.reh_tally.specs.Cursors.{EndsAt, IsCursor, IsFar, members_of}
use Rattle.reh_tally.specs.Masks.{mask_of}
use Rattle.reh_tally.proofs.cursors.next_segment.Given as goal

abbrev pub invariant-loop-index : goal.invariant-loop-index
invariant-loop-index l = record {
  inside : l.index ≤ length l.cursors.items;
  long : length l.cursors.items ≡ length l.initial.cursors.items;
  members : members_of l.cursors.items ≡ members_of l.initial.cursors.items;
  told : All (IsCursor l.ledger l.at) l.cursors.items;
  far : All (IsFar l.ledger l.at l.stop) l.cursors.items;
  later : l.at < l.next;
  within : l.next ≤ l.stop;
  before : All (λ (c : Cursor). l.next ≤ c.stretch.end) (drop l.index l.cursors.items);
  end : (l.next ≡ l.stop) ⊎ Any (EndsAt l.ledger l.stop l.next) (drop l.index l.cursors.items);
  bits : l.held ≡ mask_of (λ (c : Cursor). c.stretch.is_held) (drop l.index l.cursors.items);
}

abbrev pub decreases-loop-index : goal.decreases-loop-index
decreases-loop-index l = l.index
