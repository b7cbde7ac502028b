-- The ledgers of the inputs, and what is counted of them.
use Rattle.std.proofs.Common.{◌∙◌, List, subst, sym}
use Rattle.reh_census.specs.Bookies.{bookies_of, holders}
use Rattle.reh_census.specs.Counting.{CountsEnsembles, CountsEntries, CountsTails}
use Rattle.reh_census.specs.Ledgers.{Ledger}
use Rattle.reh_tally.specs.Few.{AreFew}
use Rattle.reh_inputs.specs.declared.ledgers.Reading.{Reading}
use Rattle.reh_inputs.specs.Gathered.{ledgers_among, reading_of}
use Rattle.reh_inputs.specs.Uncounted.{AreFewIn, IsUnfitAt, IsUnfitFault}
use Rattle.reh_inputs.proofs.FaultLaws.{IsCountFault-weaker, passed_on}
use Rattle.reh_inputs.proofs.parts.part_of.Goals as goal

pub returns : goal.returns
returns c =
    let ledgers =
    c.in_ok-ledgers.ensures.ledgers ∙ (λ i. ledgers_among c.args.names.now (c.reading_of.ensures i) c.args.inputs.now) in
    let listed = c.deref.ensures.value ∙ ledgers in
    record {
      ledgers = ledgers;
      entries =
          subst (λ (gs : List Ledger). CountsEntries c.in_ok-counts.counts.entries.items (holders (bookies_of c.args.bookies.now)) gs)
          listed c.in_ok-counts.ensures.entries;
      tails = subst (λ (gs : List Ledger). CountsTails c.in_ok-counts.counts.tails.items gs) listed c.in_ok-counts.ensures.tails;
      ensembles =
          subst (λ (gs : List Ledger). CountsEnsembles c.in_ok-counts.counts.ensembles.items gs) listed
          c.in_ok-counts.ensures.ensembles;
      well_formed = c.in_ok-counts.ensures.well_formed;
      assumed = c.in_ok-assumed.ensures.assumed;
    }

pub returns-in_err-ledgers : goal.returns-in_err-ledgers
returns-in_err-ledgers c =
    let names = c.args.names.now in
    let first = c.args.first in
    let inputs = c.args.inputs.now in
    let fault = c.in_err-ledgers.field-0.0 in
    passed_on _ _ c.from_residual.result fault c.from_residual.ensures.1
    (IsCountFault-weaker (Unit {0}) (AreFewIn (holders (bookies_of c.args.bookies.now)) names c.args.strict inputs)
    (IsUnfitAt names (reading_of c.args.strict) first inputs) (IsUnfitAt names (reading_of c.args.strict) first inputs) (λ few. tt) (λ input id is. is) fault
    (subst (λ (reading : Reading). IsUnfitFault (IsUnfitAt names reading first inputs) fault) c.reading_of.ensures
    c.in_err-ledgers.ensures.fault))

pub returns-in_err-assumed : goal.returns-in_err-assumed
returns-in_err-assumed c =
    passed_on _ _ c.from_residual-in_err-assumed.result c.in_err-assumed.field-0.0 c.from_residual-in_err-assumed.ensures.1
    c.in_err-assumed.ensures.fault

pub returns-in_err-counts : goal.returns-in_err-counts
returns-in_err-counts c =
    let fault = c.in_err-counts.field-0.0 in
    let listed =
    c.deref.ensures.value ∙ c.in_ok-ledgers.ensures.ledgers
    ∙ (λ i. ledgers_among c.args.names.now (c.reading_of.ensures i) c.args.inputs.now) in
    passed_on _ _ c.from_residual-in_err-counts.result fault c.from_residual-in_err-counts.ensures.1
    (IsCountFault-weaker (AreFew (holders (bookies_of c.args.bookies.now)) c.deref.result.now)
    (AreFewIn (holders (bookies_of c.args.bookies.now)) c.args.names.now c.args.strict c.args.inputs.now) (λ input id. ⊥)
    (IsUnfitAt c.args.names.now (reading_of c.args.strict) c.args.first c.args.inputs.now)
    (λ are. subst (λ (gs : List Ledger). AreFew (holders (bookies_of c.args.bookies.now)) gs) (sym listed) are.counts)
    (λ input id no. absurd no) fault c.in_err-counts.ensures.fault)
