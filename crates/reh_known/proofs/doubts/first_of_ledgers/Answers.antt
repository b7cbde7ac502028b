-- One ledger more, and all of them.
use Rattle.std.proofs.Common.{◌∙◌, All, List, subst}
use Rattle.std.proofs.lemmas.List.{take_all}
use Rattle.std.proofs.lemmas.List.Elements.{All-more}
use Rattle.reh_model.specs.Cluster.{Ledger}
use Rattle.reh_known.specs.Known.{IsKnownSince}
use Rattle.reh_known.proofs.doubts.first_of_ledgers.Goals as goal

pub loop-was-preserved : goal.loop-was-preserved
loop-was-preserved c =
    let P = IsKnownSince c.args.state.now c.args.done.now c.args.began.now in
    All-more P c.deref-was-items.result.now c.loop-was.was-index c.was-item.result c.loop-was-test.true c.loop-was.invariant
    (subst P c.was-item.is c.in_default.ensures.none)

pub returns : goal.returns
returns c = record {
  none =
      subst (λ (gs : List Ledger). All (IsKnownSince c.args.state.now c.args.done.now c.args.began.now) gs)
      (take_all c.loop-was.was-index c.deref-was-items.result.now c.loop-was-test.false ∙ c.deref-was-items.ensures.value)
      c.loop-was.invariant;
  some = tt;
  kind = tt;
}
