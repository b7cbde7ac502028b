-- One bookie more is read, and its name joins those before it.
use Rattle.std.proofs.Common.{sym, ap, ◌∙◌, ◌++◌, ◌∷◌, [], map, take, length, arith, length-append, ◌≡◌, ◌≢◌, Some, rules}
use Rattle.std.proofs.lemmas.List.{map-append}
use Rattle.serde_json.specs.View.{view}
use Rattle.reh_inventory_fields.specs.declared.fields.Field.TheVariants as field
use Rattle.reh_inventory_fields.specs.Members.{text_of}
use Rattle.reh_inventory.specs.Heads.{names_in, each_bookie_fault}
use Rattle.reh_inventory_fields.proofs.Lists.{HasMade-next, passed_to}
use Rattle.reh_inventory_fields.specs.declared.faults.Fault.TheVariants.{NoMemory}
use Rattle.reh_inventory.proofs.MadeLemmas.{none-faulty, all-made, next-faulty}
use Rattle.reh_inventory.proofs.heads.read_each_bookie.Goals as goal

pub loop-i-preserved : goal.loop-i-preserved
loop-i-preserved c =
    let so_far = c.loop-i.invariant in
    let value = c.index-bookies-i.result in
    let more = c.in_ok-add_bookie.ensures in record {
      made =
          HasMade-next _ _ c.args.bookies.now c.loop-i.i value c.loop-i-test.true c.index-bookies-i.is
          c.loop-i.read.items _ so_far.made
          (rw (← so_far.names) more.fault)
          more.added;
      names = more.named ∙ ap (λ ns. ns ++ text_of (view value) field.Name ∷ []) so_far.names
          ∙ sym (ap names_in (passed_to view c.args.bookies.now c.loop-i.i value c.loop-i-test.true c.index-bookies-i.is)
          ∙ map-append (λ d. text_of d field.Name) (map view (take c.loop-i.i c.args.bookies.now)) _);
      count =
          omega (
            arith,
            ap length more.named,
            length-append c.loop-i.names (text_of (view value) field.Name ∷ []),
            so_far.count,
          );
    }

pub returns-in_err-add_bookie-clause-fault : goal.returns-in_err-add_bookie-clause-fault
unfolding each_bookie_fault
returns-in_err-add_bookie-clause-fault c =
    let so_far = c.loop-i.invariant in
    let found = c.in_err-add_bookie.field-0.0 in
    let first : found.fault ≢ NoMemory → each_bookie_fault (map view c.args.bookies.now) ≡ Some (found.fault, found.place) =
    λ enough.
    next-faulty _ _ c.args.bookies.now c.loop-i.i _ so_far.made c.index-bookies-i.result c.loop-i-test.true
    c.index-bookies-i.is _ (rw (← so_far.names) (c.in_err-add_bookie.ensures.fault enough)) in
    search (rules, first)

pub returns : goal.returns
unfolding each_bookie_fault
returns c =
    let so_far = c.loop-i.invariant in record {
      fault = none-faulty _ _ c.args.bookies.now c.loop-i.i _ so_far.made c.loop-i-test.false;
      bookies = c.of.ensures ∙ all-made _ _ c.args.bookies.now c.loop-i.i _ so_far.made c.loop-i-test.false;
    }
