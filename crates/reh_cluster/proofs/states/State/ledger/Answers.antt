use Rattle.std.proofs.Common.{◌≡◌, ◌∙◌, Some, ap, sym, subst, get_or, position}
use Rattle.std.specs.Prelude.{◌==◌}
use Rattle.reh_model.specs.Cluster.{Cluster, ledger_at}
use Rattle.reh_model.proofs.LedgerLaws.{ledger_at-position}
use Rattle.reh_cluster.specs.Parts.{PartsValue}
use Rattle.reh_cluster.specs.State.{cluster_in}
use Rattle.reh_cluster.proofs.IdLaws.{absent}
use Rattle.reh_cluster.proofs.states.State.ledger.Goals as goal

pub returns-in_err-place : goal.returns-in_err-place
returns-in_err-place c =
    rw c.from_residual.ensures
    (sym (absent c.args.self.now.parts.ledgers c.args.ledger (sym c.place.ensures ∙ c.in_err-place.was)))

pub returns : goal.returns
returns c =
    let s : Cluster = cluster_in c.self.inside in
    let found : ledger_at s c.args.ledger ≡ Some c.index.result.now =
    ledger_at-position s c.args.ledger c.in_ok-place.place c.index.result.now c.self.invariant.cluster.ledgers.different
    (ap (λ (t : Cluster). position (λ g. g.id == c.args.ledger) t.parts.ledgers) c.self.view_is ∙ sym c.place.ensures
    ∙ c.in_ok-place.was)
    (subst (λ (p : PartsValue). c.index.result.now
    ≡ get_or p.parts.ledgers c.in_ok-place.place c.index.result.now) c.parts.view_is c.index.ensures) in
    sym found ∙ ap (λ (t : Cluster). ledger_at t c.args.ledger) c.self.view_is
