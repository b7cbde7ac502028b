-- The values so far have no fault; theirs are the fragments, whose first entries are within the limit.
use Rattle.std.proofs.Common.{◌<◌}
use Rattle.std.specs.Prelude.{All}
use Rattle.reh_types.specs.declared.limits.TheConstants.{ENTRY_END}
use Rattle.reh_picture.specs.Ledgers.{fragment_fault, fragment_in}
use Rattle.reh_picture.proofs.Lists.{HasMade}
use Rattle.reh_picture.proofs.ledgers.read_fragments.Given as goal

abbrev pub invariant-loop-i : goal.invariant-loop-i
invariant-loop-i l = record {
  made : HasMade (λ i _ fragment. fragment_fault l.names l.ledger i fragment) (fragment_in l.names) l.values l.i
      l.fragments.items;
  firsts : All (λ f. f.first < ENTRY_END) l.fragments.items;
}
