-- The sum is the words of the ledgers so far, which are few.
use Rattle.std.proofs.Common.{◌≡◌, ◌*◌, ◌≤◌, take}
use Rattle.std.specs.Prelude.{sum_by}
use Rattle.reh_types.specs.declared.limits.TheConstants.{ENTRY_END}
use Rattle.reh_picture.proofs.pictures.words_in_all.Given as goal

abbrev pub invariant-loop-ledger : goal.invariant-loop-ledger
invariant-loop-ledger l = record {
  sum : l.words ≡ sum_by (λ g. g.words) (take l.ledger-index l.ledgers);
  small : l.words ≤ l.ledger-index * ENTRY_END;
}
