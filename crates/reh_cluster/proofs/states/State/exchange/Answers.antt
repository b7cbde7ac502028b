-- The record that is left fits the state that comes of it, and an exchange of it brings back both.
use Rattle.std.proofs.Common.{◌≡◌, ◌∙◌, map, ap, sym, subst}
use Rattle.reh_model.specs.Cluster.{Cluster}
use Rattle.reh_model.specs.WellFormed.{IsWellFormed}
use Rattle.reh_model.specs.Places.{Fits, exchanged}
use Rattle.reh_cluster.specs.Parts.{PartsValue}
use Rattle.reh_cluster.specs.State.{cluster_in}
use Rattle.reh_cluster.proofs.IdLaws.{ids-put_all}
use Rattle.reh_cluster.proofs.ExchangeLaws.{fits_again, brought_back, left_again}
use Rattle.reh_cluster.proofs.states.State.exchange.Goals as goal

fits : (c : goal.After-exchange) → Fits (cluster_in c.self.inside) c.args.changes.now
fits c = subst (λ (s : Cluster). Fits s c.args.changes.now) (sym c.self.view_is) c.requires

made : (c : goal.After-exchange)
    → record (cluster_in c.self.inside) { parts = c.exchange.new.parts.parts }
    ≡ exchanged (cluster_in c.self.inside) c.args.changes.now
made c = ap (λ (p : PartsValue). record (cluster_in c.self.inside) { parts = p.parts }) c.exchange.ensures.parts

pub invariant_of-self : goal.invariant_of-self
invariant_of-self c = record {
  cluster = subst IsWellFormed (sym (made c)) (fits c).well_formed;
  ids =
      c.self.invariant.ids
      ∙ sym (ap (λ (s : Cluster). map (λ g. g.id) s.parts.ledgers) (made c)
      ∙ ids-put_all c.self.inside.parts.parts c.args.changes.now);
  bookies = ap (λ (p : PartsValue). p.bookies) c.exchange.ensures.parts ∙ c.self.invariant.bookies;
}

pub returns-clause-fits : goal.returns-clause-fits
returns-clause-fits c =
    fits_again (cluster_in c.self.inside) _ c.args.changes.now _ (made c) c.exchange.ensures.left
    c.exchange.ensures.rising c.self.invariant.cluster (fits c)

pub returns-clause-back : goal.returns-clause-back
returns-clause-back c =
    brought_back (cluster_in c.self.inside) _ c.args.changes.now _ (made c) c.exchange.ensures.left
    c.exchange.ensures.rising
    ∙ c.self.view_is

pub returns-clause-again : goal.returns-clause-again
returns-clause-again c =
    left_again (cluster_in c.self.inside) _ c.args.changes.now _ (made c) c.exchange.ensures.left
    c.exchange.ensures.rising
