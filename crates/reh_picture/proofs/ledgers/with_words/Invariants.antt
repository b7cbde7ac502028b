-- The listed ledgers so far have their words.
use Rattle.std.proofs.Common.{◌≡◌, map}
use Rattle.std.specs.BTreeMap.{get}
use Rattle.std.specs.Ordering.{nat_cmp}
use Rattle.reh_picture.specs.Ledgers.{ledger_of}
use Rattle.reh_picture.proofs.ledgers.with_words.Given as goal

abbrev pub invariant-loop-ledger : goal.invariant-loop-ledger
invariant-loop-ledger l = l.ledgers.items ≡ map (ledger_of (get nat_cmp l.greatest)) l.yielded
