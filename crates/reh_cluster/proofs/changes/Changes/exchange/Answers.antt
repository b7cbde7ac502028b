-- What is left has the same places, in their order.
use Rattle.std.proofs.Common.{◌∙◌, List, map, ap, subst, sym, arith}
use Rattle.std.proofs.lemmas.List.{with_items_is}
use Rattle.std.proofs.lemmas.List.Elements.{All-nil}
use Rattle.reh_model.specs.Places.{Change, place_of, back_all, AreRising, IsBefore}
use Rattle.reh_cluster.specs.declared.changes.Changes.TheInside.{Inside}
use Rattle.reh_cluster.specs.declared.changes.Kept.{Kept}
use Rattle.reh_cluster.specs.Changes.{changes_in}
use Rattle.reh_cluster.proofs.ExchangeLaws.{rising_kept}
use Rattle.reh_cluster.proofs.changes.Changes.exchange.Goals.{in-One, in-Many}
use Rattle.reh_cluster.proofs.changes.Changes.exchange.Goals as goal

pub invariant_of-self : goal.invariant_of-self
invariant_of-self c = elim c.match-self.branch [
  | in-One w ↦
      subst (λ (x : Inside). AreRising (map place_of (changes_in x.kept))) (sym w.self-inside-is)
      (All-nil (IsBefore (place_of w.exchange_one.new.change)), tt)
  | in-Many w ↦
      subst (λ (x : Inside). AreRising (map place_of (changes_in x.kept))) (sym w.self-inside-is)
      (rising_kept c.args.parts.now.parts w.in-Many.list.items _
      (with_items_is w.in-Many.list w.exchange_all.new.changes
      (omega (arith, w.exchange_all.auto.changes, w.deref_mut.ensures.len))
      ∙ w.exchange_all.ensures.left
      ∙ ap (λ (cs : List Change). back_all c.args.parts.now.parts cs) w.deref_mut.ensures.value)
      (subst (λ (k : Kept). AreRising (map place_of (changes_in k))) w.in-Many.is c.self.invariant))
]
