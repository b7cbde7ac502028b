-- The ledger doesn't fit.
use Rattle.std.proofs.Common.{refl, List, arith}
use Rattle.std.proofs.lemmas.Option.{MatchOption-at_none}
use Rattle.std.specs.BTreeMap.{get}
use Rattle.std.specs.Ordering.{nat_cmp}
use Rattle.reh_census.specs.Ledgers.{IsLedger}
use Rattle.reh_picture.specs.Contents.{Holding}
use Rattle.reh_inputs.specs.ByLedger.{AreOf}
use Rattle.reh_inputs.specs.Ledgers.{ledger_of}
use Rattle.reh_inputs.proofs.parts.add_ledger.Goals as goal

pub returns-in-None-clause-fault : goal.returns-in-None-clause-fault
returns-in-None-clause-fault c = (
  refl,
  omega (arith, c.result.view_is, c.id.ensures),
  λ is.
      MatchOption-at_none ((holdings : List Holding) → AreOf holdings (get nat_cmp c.args.held.now)
      → IsLedger (ledger_of c.args.numbers.now c.args.reading holdings c.args.ledger.now.id c.args.ledger.now.metadata) → ⊥)
      (λ made. Unit {0}) c.in-None.is c.in_ok-made.ensures.unfit c.args.listed.now.listing.holdings.items c.requires is,
)
