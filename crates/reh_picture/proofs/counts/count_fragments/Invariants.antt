-- The sum is the fragments of the ledgers so far, which are few.
use Rattle.std.proofs.Common.{◌≡◌, ◌*◌, ◌≤◌, take}
use Rattle.reh_types.specs.declared.limits.TheConstants.{MAX_FRAGMENTS}
use Rattle.reh_picture.specs.Counts.{fragments_of}
use Rattle.reh_picture.proofs.counts.count_fragments.Given as goal

abbrev pub invariant-loop-ledger : goal.invariant-loop-ledger
invariant-loop-ledger l = record {
  sum : l.fragments ≡ fragments_of (take l.ledger-index l.ledgers);
  small : l.fragments ≤ l.ledger-index * MAX_FRAGMENTS;
}
