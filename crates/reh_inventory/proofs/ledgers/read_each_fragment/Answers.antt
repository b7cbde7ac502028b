-- One fragment more is read, and the next one has to begin after it does.
use Rattle.std.proofs.Common.{◌+◌, sym, ap, ◌∙◌, map, take, arith, ◌≡◌, ◌≢◌, ℕ, Some, rules}
use Rattle.std.proofs.lemmas.List.{take_all}
use Rattle.serde_json.specs.View.{view}
use Rattle.reh_inventory.specs.declared.ledgers.Fragment.{Fragment}
use Rattle.reh_inventory_fields.specs.declared.members.TheConstants.{MAX_NUMBER}
use Rattle.reh_inventory.specs.Ledgers.{bounds_after, each_fragment_fault, next_first}
use Rattle.reh_inventory.proofs.LastLemmas.{bounds_after-push}
use Rattle.reh_inventory_fields.proofs.Lists.{HasMade-next, passed_to}
use Rattle.reh_inventory_fields.specs.declared.faults.Fault.TheVariants.{NoMemory}
use Rattle.reh_inventory.proofs.MadeLemmas.{none-faulty, all-made, next-faulty}
use Rattle.reh_inventory.proofs.ledgers.read_each_fragment.Goals as goal

pub loop-i-preserved : goal.loop-i-preserved
loop-i-preserved c =
    let so_far = c.loop-i.invariant in
    let value = c.index-values-i.result in
    let one = c.in_ok-fragment.ensures in record {
      made =
          HasMade-next _ _ c.args.values.now c.loop-i.i value c.loop-i-test.true c.index-values-i.is
          c.loop-i.fragments.items _ so_far.made
          (rw (← so_far.bounds) one.fault)
          (rw (← one.fragment) c.in_ok-push.ensures.items);
      bounds = ap (λ (f : Fragment). (f.first + 1, MAX_NUMBER)) one.fragment
          ∙ sym (ap bounds_after
          (passed_to view c.args.values.now c.loop-i.i value c.loop-i-test.true c.index-values-i.is)
          ∙ bounds_after-push (map view (take c.loop-i.i c.args.values.now)) (view value));
      within = omega arith;
    }

pub returns-in_err-fragment-clause-fault : goal.returns-in_err-fragment-clause-fault
unfolding each_fragment_fault
returns-in_err-fragment-clause-fault c =
    let so_far = c.loop-i.invariant in
    let found = c.in_err-fragment.field-0.0 in
    let first : found.fault ≢ NoMemory → each_fragment_fault c.args.size (map view c.args.values.now) ≡ Some (found.fault, found.place) =
    λ enough.
    next-faulty _ _ c.args.values.now c.loop-i.i _ so_far.made c.index-values-i.result c.loop-i-test.true
    c.index-values-i.is _ (rw (← so_far.bounds) (c.in_err-fragment.ensures.fault enough)) in
    search (rules, first)

pub returns : goal.returns
unfolding each_fragment_fault
returns c =
    let so_far = c.loop-i.invariant in record {
      fault = none-faulty _ _ c.args.values.now c.loop-i.i _ so_far.made c.loop-i-test.false;
      fragments = c.of.ensures ∙ all-made _ _ c.args.values.now c.loop-i.i _ so_far.made c.loop-i-test.false;
      next = ap (λ (b : ℕ × ℕ). b.0) so_far.bounds ∙ ap (λ vs. next_first (map view vs)) (take_all c.loop-i.i c.args.values.now c.loop-i-test.false);
    }
