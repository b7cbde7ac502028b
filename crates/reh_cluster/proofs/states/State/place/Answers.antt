use Rattle.std.proofs.Common.{◌∙◌, ap, position, nat_eq, List, ℕ}
use Rattle.reh_model.specs.Cluster.{Cluster}
use Rattle.reh_cluster.proofs.IdLaws.{position_of-id}
use Rattle.reh_cluster.proofs.states.State.place.Goals as goal

pub returns : goal.returns
returns c =
    c.get_index_of.ensures.index ∙ ap (λ (l : ℕ). position (nat_eq l) c.self.inside.ids.keys) c.ledger.view_is
    ∙ ap (λ (ids : List ℕ). position (nat_eq c.args.ledger) ids) c.self.invariant.ids
    ∙ position_of-id c.self.inside.parts.parts.ledgers c.args.ledger
    ∙ ap (λ (s : Cluster). position (λ g. nat_eq g.id c.args.ledger) s.parts.ledgers) c.self.view_is
