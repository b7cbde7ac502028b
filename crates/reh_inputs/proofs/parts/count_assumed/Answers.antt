-- Where nothing is assumed nothing rests on it.
use Rattle.std.proofs.Common.{◌∙◌, Err, List, ap, subst, sym}
use Rattle.reh_census.specs.Bookies.{bookies_of, holders}
use Rattle.reh_census.specs.Ledgers.{Ledger}
use Rattle.reh_tally.specs.Few.{AreFew}
use Rattle.reh_inputs.specs.declared.ledgers.Reading.TheVariants.{Assumed}
use Rattle.reh_inputs.specs.Gathered.{fault_of_tally, reading_of}
use Rattle.reh_inputs.specs.Uncounted.{AreFewIn, IsUnfitAt}
use Rattle.reh_inputs.proofs.AssumedLaws.{none_assumed}
use Rattle.reh_inputs.proofs.FaultLaws.{IsCountFault-tally, IsCountFault-weaker, passed_on, unfit_at_as}
use Rattle.reh_inputs.proofs.ReadingLaws.{few_as}
use Rattle.reh_inputs.proofs.parts.count_assumed.Goals as goal

pub returns-then-not-is_assumed_in_any-clause-assumed : goal.returns-then-not-is_assumed_in_any-clause-assumed
returns-then-not-is_assumed_in_any-clause-assumed c =
    sym (none_assumed (holders (bookies_of c.args.bookies.now)) c.args.names.now c.args.inputs.now
    (sym c.if-not-is_assumed_in_any.ensures))

-- the ledgers are the same, however they are read
pub returns-in_err-ledgers-clause-fault : goal.returns-in_err-ledgers-clause-fault
returns-in_err-ledgers-clause-fault c =
    let names = c.args.names.now in
    let first = c.args.first in
    let inputs = c.args.inputs.now in
    let fault = c.in_err-ledgers.field-0.0 in
    passed_on _ _ c.from_residual.result fault c.from_residual.ensures.1
    (λ strict.
    IsCountFault-weaker (Unit {0}) (AreFewIn (holders (bookies_of c.args.bookies.now)) names strict inputs)
    (IsUnfitAt names Assumed first inputs) (IsUnfitAt names (reading_of strict) first inputs) (λ few. tt)
    (unfit_at_as names Assumed (reading_of strict) first inputs) fault c.in_err-ledgers.ensures.fault)

pub returns-in_err-census-clause-fault : goal.returns-in_err-census-clause-fault
returns-in_err-census-clause-fault c =
    let all = holders (bookies_of c.args.bookies.now) in
    let names = c.args.names.now in
    let inputs = c.args.inputs.now in
    let tally = c.in_err-census.field-0.0 in
    passed_on _ _ c.from_residual-in_err-census.result (fault_of_tally tally) c.from_residual-in_err-census.ensures.1
    (λ strict.
    IsCountFault-tally (AreFewIn all names strict inputs) (IsUnfitAt names (reading_of strict) c.args.first inputs) tally
    (λ same are.
    (c.in_err-census.ensures.too_many).0 (ap Err same)
    (subst (λ (gs : List Ledger). AreFew all gs) (sym (c.deref.ensures.value ∙ c.in_ok-ledgers.ensures.ledgers))
    (few_as all names (reading_of strict) Assumed inputs are.counts))))
