-- One range more is read, and the next one has to begin after its end.
use Rattle.std.proofs.Common.{◌+◌, sym, ap, ◌∙◌, map, take, ◌≡◌, ◌≢◌, Some, rules}
use Rattle.serde_json.specs.View.{view}
use Rattle.reh_census.specs.declared.ledgers.Range.{Range}
use Rattle.reh_inventory.specs.Contents.{next_after, ranges_fault}
use Rattle.reh_inventory.proofs.LastLemmas.{next_after-push}
use Rattle.reh_inventory_fields.proofs.Lists.{HasMade-next, passed_to}
use Rattle.reh_inventory_fields.specs.declared.faults.Fault.TheVariants.{NoMemory}
use Rattle.reh_inventory.proofs.MadeLemmas.{none-faulty, all-made, next-faulty}
use Rattle.reh_inventory.proofs.contents.read_ranges.Goals as goal

pub loop-i-preserved : goal.loop-i-preserved
loop-i-preserved c =
    let so_far = c.loop-i.invariant in
    let value = c.index-values-i.result in
    let one = c.in_ok-range.ensures in record {
      made =
          HasMade-next _ _ c.args.values.now c.loop-i.i value c.loop-i-test.true c.index-values-i.is
          c.loop-i.ranges.items _ so_far.made
          (rw (← so_far.least) one.fault)
          (rw (← one.range) c.in_ok-push.ensures.items);
      least = ap (λ (r : Range). r.last + 1) one.range
          ∙ sym (ap (next_after c.args.field)
          (passed_to view c.args.values.now c.loop-i.i value c.loop-i-test.true c.index-values-i.is)
          ∙ next_after-push c.args.field (map view (take c.loop-i.i c.args.values.now)) (view value));
    }

pub returns-in_err-range-clause-fault : goal.returns-in_err-range-clause-fault
unfolding ranges_fault
returns-in_err-range-clause-fault c =
    let so_far = c.loop-i.invariant in
    let found = c.in_err-range.field-0.0 in
    let first : found.fault ≢ NoMemory → ranges_fault c.args.content c.args.field (map view c.args.values.now) ≡ Some (found.fault, found.place) =
    λ enough.
    next-faulty _ _ c.args.values.now c.loop-i.i _ so_far.made c.index-values-i.result c.loop-i-test.true
    c.index-values-i.is _ (rw (← so_far.least) (c.in_err-range.ensures.fault enough)) in
    search (rules, first)

pub returns : goal.returns
unfolding ranges_fault
returns c =
    let so_far = c.loop-i.invariant in record {
      fault = none-faulty _ _ c.args.values.now c.loop-i.i _ so_far.made c.loop-i-test.false;
      ranges = c.of.ensures ∙ all-made _ _ c.args.values.now c.loop-i.i _ so_far.made c.loop-i-test.false;
    }
