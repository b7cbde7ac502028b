-- One ledger more is read, and its id joins those before it.
use Rattle.std.proofs.Common.{sym, ap, ◌∙◌, ◌++◌, ◌∷◌, [], map, take, take_all}
use Rattle.std.proofs.lemmas.List.{map-append}
use Rattle.serde_json.specs.View.{view}
use Rattle.serde_json.specs.declared.value.Value.{Value}
use Rattle.std.specs.Prelude.{List}
use Rattle.reh_fields.specs.declared.fields.Field.TheVariants as field
use Rattle.reh_fields.specs.Members.{number_of}
use Rattle.reh_picture.specs.Ledgers.{ids_in, ledger_fault, each_ledger_fault}
use Rattle.reh_picture.proofs.Lists.{HasMade-next, passed_to}
use Rattle.reh_picture.proofs.Walks.{IsLeft-all, IsLeft-fails, HasMade-all}
use Rattle.reh_picture.proofs.ledgers.read_each_ledger.Goals as goal

pub loop-i-preserved : goal.loop-i-preserved
loop-i-preserved c =
    let so_far = c.loop-i.invariant in
    let value = c.index-values-i.result in
    let read = c.in_ok-add_ledger.ensures in record {
      made =
          HasMade-next _ _ c.args.values.now c.loop-i.i value c.loop-i-test.true c.index-values-i.is
          c.loop-i.ledgers.listed.items _ so_far.made
          (ap (λ ids. ledger_fault c.args.names.now c.loop-i.i ids (view value)) (sym so_far.ids) ∙ read.fault)
          read.listed;
      ids = read.ids ∙ ap (λ ids. ids ++ number_of (view value) field.Id ∷ []) so_far.ids
          ∙ sym (ap ids_in (passed_to view c.args.values.now c.loop-i.i value c.loop-i-test.true c.index-values-i.is)
          ∙ map-append (λ d. number_of d field.Id) (map view (take c.loop-i.i c.args.values.now)) _);
    }

pub returns-in_err-add_ledger-clause-fault : goal.returns-in_err-add_ledger-clause-fault
unfolding each_ledger_fault
returns-in_err-add_ledger-clause-fault c =
    let i = c.loop-i.i in
    let value = c.index-values-i.result in
    let so_far = c.loop-i.invariant in
    IsLeft-fails (λ i before d. ledger_fault c.args.names.now i (ids_in before) d) c.args.values.now i value
    c.loop-i-test.true c.index-values-i.is so_far.made.left c.from_residual.result c.in_err-add_ledger.field-0.0
    c.from_residual.ensures.1
    (λ known. ap (λ ids. ledger_fault c.args.names.now i ids (view value)) (sym so_far.ids)
    ∙ c.in_err-add_ledger.ensures.fault known)

pub returns-clause-fault : goal.returns-clause-fault
unfolding each_ledger_fault
returns-clause-fault c =
    IsLeft-all (λ i before d. ledger_fault c.args.names.now i (ids_in before) d) c.args.values.now c.loop-i.i
    c.loop-i-test.false c.loop-i.invariant.made.left

pub returns-clause-ids : goal.returns-clause-ids
returns-clause-ids c =
    c.loop-i.invariant.ids
    ∙ ap (λ (ys : List Value). ids_in (map view ys)) (take_all c.loop-i.i c.args.values.now c.loop-i-test.false)

pub returns-clause-listed : goal.returns-clause-listed
returns-clause-listed c =
    HasMade-all _ _ c.args.values.now c.loop-i.i _ c.loop-i-test.false c.loop-i.invariant.made
