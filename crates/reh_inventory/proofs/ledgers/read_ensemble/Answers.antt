-- One member more is read, and its name joins the ensemble.
use Rattle.std.proofs.Common.{◌≡◌, ◌≢◌, ◌∙◌, map, Some, rules}
use Rattle.serde_json.specs.View.{view}
use Rattle.reh_inventory.specs.Ledgers.{members_fault}
use Rattle.reh_inventory_fields.proofs.Lists.{HasMade-next}
use Rattle.reh_inventory_fields.specs.declared.faults.Fault.TheVariants.{NoMemory}
use Rattle.reh_inventory.proofs.MadeLemmas.{none-faulty, all-made, next-faulty}
use Rattle.reh_inventory.proofs.ledgers.read_ensemble.Goals as goal

pub loop-i-preserved : goal.loop-i-preserved
loop-i-preserved c =
    HasMade-next _ _ c.args.members.now c.loop-i.i c.index-members-i.result c.loop-i-test.true c.index-members-i.is
    c.loop-i.ensemble.items _ c.loop-i.invariant c.in_ok-read_member.ensures.fault
    (rw c.in_ok-read_member.ensures.name c.in_ok-push.ensures.items)

pub returns-in_err-read_member-clause-fault : goal.returns-in_err-read_member-clause-fault
unfolding members_fault
returns-in_err-read_member-clause-fault c =
    let so_far = c.loop-i.invariant in
    let found = c.in_err-read_member.field-0.0 in
    let first : found.fault ≢ NoMemory → members_fault c.args.fragment (map view c.args.members.now) ≡ Some (found.fault, found.place) =
    λ enough.
    next-faulty _ _ c.args.members.now c.loop-i.i _ so_far c.index-members-i.result c.loop-i-test.true
    c.index-members-i.is _ (c.in_err-read_member.ensures.fault enough) in
    search (rules, first)

pub returns : goal.returns
unfolding members_fault
returns c =
    let so_far = c.loop-i.invariant in record {
      fault = none-faulty _ _ c.args.members.now c.loop-i.i _ so_far c.loop-i-test.false;
      ensemble = c.of.ensures ∙ all-made _ _ c.args.members.now c.loop-i.i _ so_far c.loop-i-test.false;
    }
