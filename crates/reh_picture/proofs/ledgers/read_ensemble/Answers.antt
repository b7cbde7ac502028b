-- One member more is read: a name of the picture, and its bookie joins the ensemble.
use Rattle.reh_picture.specs.declared.places.Place.TheVariants as place
use Rattle.reh_picture.specs.Places.{fault_at}
use Rattle.reh_picture.specs.Ledgers.{member_fault, members_fault}
use Rattle.reh_picture.proofs.Lists.{HasMade-next}
use Rattle.reh_picture.proofs.Walks.{IsLeft-all, IsLeft-fails, HasMade-all}
use Rattle.reh_picture.proofs.ledgers.read_ensemble.Goals as goal

pub loop-i-preserved : goal.loop-i-preserved
loop-i-preserved c =
    HasMade-next _ _ c.args.members.now c.loop-i.i c.index-members-i.result c.loop-i-test.true c.index-members-i.is
    c.loop-i.ensemble.items _ c.loop-i.invariant c.in_ok-read_member.ensures.fault
    (rw (← c.in_ok-read_member.ensures.bookie) c.in_ok-push.ensures.items)

pub returns-in_err-read_member-clause-fault : goal.returns-in_err-read_member-clause-fault
unfolding members_fault
returns-in_err-read_member-clause-fault c =
    IsLeft-fails
    (λ i _ d. fault_at (place.Member c.args.ledger c.args.fragment i) (member_fault c.args.names.now d))
    c.args.members.now c.loop-i.i c.index-members-i.result c.loop-i-test.true c.index-members-i.is
    c.loop-i.invariant.left c.from_residual.result c.in_err-read_member.field-0.0 c.from_residual.ensures.1
    c.in_err-read_member.ensures.fault

pub returns-clause-fault : goal.returns-clause-fault
unfolding members_fault
returns-clause-fault c =
    IsLeft-all (λ i _ d. fault_at (place.Member c.args.ledger c.args.fragment i) (member_fault c.args.names.now d))
    c.args.members.now c.loop-i.i c.loop-i-test.false c.loop-i.invariant.left

pub returns-clause-ensemble : goal.returns-clause-ensemble
returns-clause-ensemble c =
    HasMade-all _ _ c.args.members.now c.loop-i.i _ c.loop-i-test.false c.loop-i.invariant
