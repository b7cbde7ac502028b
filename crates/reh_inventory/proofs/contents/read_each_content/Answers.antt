-- One content more is read, and the name of its bookie joins those before it.
use Rattle.std.proofs.Common.{sym, ap, ◌∙◌, ◌++◌, ◌∷◌, [], map, take, length, arith, length-append, ◌≡◌, ◌≢◌, Some, rules}
use Rattle.std.proofs.lemmas.List.{map-append}
use Rattle.serde_json.specs.View.{view}
use Rattle.reh_inventory_fields.specs.declared.fields.Field.TheVariants as field
use Rattle.reh_inventory_fields.specs.Members.{text_of}
use Rattle.reh_inventory.specs.Contents.{bookies_in, each_content_fault}
use Rattle.reh_inventory_fields.proofs.Lists.{HasMade-next, passed_to}
use Rattle.reh_inventory_fields.specs.declared.faults.Fault.TheVariants.{NoMemory}
use Rattle.reh_inventory.proofs.MadeLemmas.{none-faulty, all-made, next-faulty}
use Rattle.reh_inventory.proofs.contents.read_each_content.Goals as goal

pub loop-i-preserved : goal.loop-i-preserved
loop-i-preserved c =
    let so_far = c.loop-i.invariant in
    let value = c.index-values-i.result in
    let more = c.in_ok-add_content.ensures in record {
      made =
          HasMade-next _ _ c.args.values.now c.loop-i.i value c.loop-i-test.true c.index-values-i.is
          c.loop-i.contents.items _ so_far.made
          (rw (← so_far.names) more.fault)
          more.added;
      names = more.named ∙ ap (λ ns. ns ++ text_of (view value) field.Bookie ∷ []) so_far.names
          ∙ sym (ap bookies_in (passed_to view c.args.values.now c.loop-i.i value c.loop-i-test.true c.index-values-i.is)
          ∙ map-append (λ d. text_of d field.Bookie) (map view (take c.loop-i.i c.args.values.now)) _);
      count =
          omega (
            arith,
            ap length more.named,
            length-append c.loop-i.names (text_of (view value) field.Bookie ∷ []),
            so_far.count,
          );
    }

pub returns-in_err-add_content-clause-fault : goal.returns-in_err-add_content-clause-fault
unfolding each_content_fault
returns-in_err-add_content-clause-fault c =
    let so_far = c.loop-i.invariant in
    let found = c.in_err-add_content.field-0.0 in
    let first : found.fault ≢ NoMemory → each_content_fault (map view c.args.values.now) ≡ Some (found.fault, found.place) =
    λ enough.
    next-faulty _ _ c.args.values.now c.loop-i.i _ so_far.made c.index-values-i.result c.loop-i-test.true
    c.index-values-i.is _ (rw (← so_far.names) (c.in_err-add_content.ensures.fault enough)) in
    search (rules, first)

pub returns : goal.returns
unfolding each_content_fault
returns c =
    let so_far = c.loop-i.invariant in record {
      fault = none-faulty _ _ c.args.values.now c.loop-i.i _ so_far.made c.loop-i-test.false;
      contents = c.of.ensures ∙ all-made _ _ c.args.values.now c.loop-i.i _ so_far.made c.loop-i-test.false;
    }
