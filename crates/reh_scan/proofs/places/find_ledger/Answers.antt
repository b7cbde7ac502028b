-- The ledger that stands at the place of the id is the one of that id; without a place there is none.
use Rattle.std.proofs.Common.{◌≡◌, ◌∙◌, refl, sym, get_or}
use Rattle.reh_model.specs.Cluster.{Cluster, Ledger}
use Rattle.reh_model.proofs.LedgerLaws.{ledger_at-position}
use Rattle.reh_cluster.proofs.IdLaws.{absent}
use Rattle.reh_scan.proofs.places.find_ledger.Goals as goal

pub returns-in_default : goal.returns-in_default
returns-in_default c =
    (absent c.args.state.now.parts.ledgers c.args.ledger (sym c.place.ensures ∙ c.in_default.is), refl)

pub returns : goal.returns
returns c =
    let s : Cluster = c.args.state.now in
    let g : Ledger = c.index-ledgers-place.result in
    let read : g ≡ get_or s.parts.ledgers c.in-Some.place g =
    rw (← c.ledgers.ensures.ledgers) c.index-ledgers-place.is in
    let place = sym c.place.ensures ∙ c.in-Some.is in
    record {
      well_formed = c.ledgers.ensures.well_formed;
      place = place;
      ledger =
          ledger_at-position s c.args.ledger c.in-Some.place g c.ledgers.ensures.well_formed.ledgers.different place
          read;
    }
