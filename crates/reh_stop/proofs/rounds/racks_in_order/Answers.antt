-- Those of all racks are the first in one.
use Rattle.std.proofs.Common.{◌∙◌}
use Rattle.std.specs.Prelude.{filter}
use Rattle.reh_census.specs.Copies.{is_in}
use Rattle.reh_stop.proofs.RackLaws.{is_in-first}
use Rattle.reh_stop.proofs.rounds.racks_in_order.Goals as goal

pub returns : goal.returns
returns c = record {
  order = c.in_ok-order.order.items;
  in_order = c.in_ok-order.ensures;
  first =
      let all = c.args.cluster.now.shown in
      c.in_ok-racks.ensures
      ∙ (λ i. filter (is_in ((c.deref-2.ensures.value ∙ c.in_ok-numbers.ensures) i)) (c.deref.ensures.value i))
      ∙ (λ i. filter (λ b. is_in-first all b i) c.in_ok-order.order.items);
}
