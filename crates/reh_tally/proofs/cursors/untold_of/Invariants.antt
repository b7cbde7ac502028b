-- The bits of the cursors that are passed, from the last.
use Rattle.std.proofs.Common.{◌≡◌, ◌≤◌, drop, length}
use Rattle.reh_census.specs.Ledgers.{is_untold}
use Rattle.reh_tally.specs.declared.cursors.Cursor.{Cursor}
use Rattle.reh_tally.specs.Cursors.{told_at}
use Rattle.reh_tally.specs.Masks.{mask_of}
use Rattle.reh_tally.proofs.cursors.untold_of.Given as goal

abbrev pub invariant-loop-index : goal.invariant-loop-index
invariant-loop-index l = record {
  within : l.index ≤ length l.cursors;
  bits : l.mask ≡ mask_of (λ (c : Cursor). is_untold (told_at l.ledger c.content)) (drop l.index l.cursors);
}

abbrev pub decreases-loop-index : goal.decreases-loop-index
decreases-loop-index l = l.index
