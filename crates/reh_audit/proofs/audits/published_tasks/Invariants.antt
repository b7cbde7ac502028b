-- The tasks so far are those that an audit changes among the ledgers so far.
use Rattle.std.proofs.Common.{◌≡◌, map, take}
use Rattle.std.specs.List.{filter}
use Rattle.reh_model.specs.Audit.{published_members, is_news}
use Rattle.reh_audit.proofs.audits.published_tasks.Given as goal

abbrev pub invariant-loop-ledger : goal.invariant-loop-ledger
invariant-loop-ledger l = l.tasks.items ≡ map (λ g. (g.id, published_members l.state g)) (filter (is_news l.state) (take l.ledger-index l.ledgers))
