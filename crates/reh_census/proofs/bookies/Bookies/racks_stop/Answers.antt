use Rattle.std.proofs.Common.{◌≡◌, ◌∙◌, List, take, max, ap, sym, arith}
use Rattle.std.proofs.lemmas.List.{take_all}
use Rattle.reh_census.specs.declared.bookies.Bookie.{Bookie}
use Rattle.reh_census.specs.Bookies.{racks_stop}
use Rattle.reh_census.proofs.RackLaws.{each-below, stop-more}
use Rattle.reh_census.proofs.bookies.Bookies.racks_stop.Goals as goal

pub loop-bookie-preserved : goal.loop-bookie-preserved
loop-bookie-preserved c = record {
  value =
      c.max-stop.ensures
      ∙ (λ i. max (c.loop-bookie.invariant.value i) (c.rack_stop.ensures.value i))
      ∙ sym (stop-more c.deref-bookie-items.result.now c.loop-bookie.bookie-index _ c.loop-bookie-test.true);
  within = omega (arith, c.max-stop.ensures, c.rack_stop.ensures.within, c.loop-bookie.invariant.within);
}

pub returns-clause-each : goal.returns-clause-each
returns-clause-each c =
    let whole : take c.loop-bookie.bookie-index c.deref-bookie-items.result.now ≡ c.args.self.now =
    take_all c.loop-bookie.bookie-index c.deref-bookie-items.result.now c.loop-bookie-test.false ∙ c.deref-bookie-items.ensures.value ∙ c.self.view_is in
    let all : c.loop-bookie.stop ≡ racks_stop c.args.self.now =
    c.loop-bookie.invariant.value ∙ ap (λ (bookies : List Bookie). racks_stop bookies) whole in
    each-below c.args.self.now c.loop-bookie.stop (omega (arith, all))
