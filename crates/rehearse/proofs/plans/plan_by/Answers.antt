-- What the plan promises.
use Rattle.rehearse.proofs.plans.plan_by.Goals as goal

pub returns-in-Ok : goal.returns-in-Ok
returns-in-Ok c = record {
  opening = c.in-Ok.ensures.opening;
  accepted = c.in-Ok.ensures.accepted;
  without = c.in-Ok.ensures.lost;
  order = c.in-Ok.ensures.order;
  places = c.in-Ok.ensures.places;
  left = c.in-Ok.ensures.left;
  racks = c.in-Ok.ensures.racks;
  sum = c.in-Ok.ensures.sum;
}
