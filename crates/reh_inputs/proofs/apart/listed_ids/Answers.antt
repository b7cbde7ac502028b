-- One id more.
use Rattle.std.proofs.Common.{◌∙◌, ℕ, ap}
use Rattle.reh_model.specs.Cluster.{Ledger}
use Rattle.reh_inputs.proofs.RangeLaws.{pushed}
use Rattle.reh_inputs.proofs.apart.listed_ids.Goals as goal

pub loop-ledger-preserved : goal.loop-ledger-preserved
loop-ledger-preserved c =
    let id : Ledger → ℕ = λ g. g.id in
    pushed id c.args.ledgers.now c.loop-ledger.ledger-index c.ledger-item.result c.loop-ledger.ids.items
    c.push-in-loop-ledger.new.self.items c.push.inside.0 c.loop-ledger-test.true c.in_ok-push.ensures.items
    (c.push.view_is ∙ c.id.ensures ∙ ap id c.ledger-item.is) c.loop-ledger.invariant
