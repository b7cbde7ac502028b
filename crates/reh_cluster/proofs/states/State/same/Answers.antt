-- Where names, grace, delay and the other parts are the same, the rows tell whether the states are.
use Rattle.std.proofs.Common.{◌≡◌, ◌∙◌, ap, sym, true≢false}
use Rattle.reh_types.specs.Same.{told_by, tells_numbers}
use Rattle.reh_model.specs.Cluster.{Cluster, Parts}
use Rattle.reh_cluster.specs.State.{cluster_in}
use Rattle.reh_cluster.proofs.SameStates.{same_parts, told_by_rows}
use Rattle.reh_cluster.proofs.states.State.same.Goals.{then-same, else-same, then-self-other, else-self-other, then-self-other-2, else-self-other-2}
use Rattle.reh_cluster.proofs.states.State.same.Goals as goal

pub have_same_rows-requires-clause-ledgers : goal.have_same_rows-requires-clause-ledgers
have_same_rows-requires-clause-ledgers c = elim c.if-self-other-2.branch [
  | then-self-other-2 w ↦
      ap (λ (p : Parts). p.ledgers)
      ((same_parts c.self.inside.parts.parts c.other.inside.parts.parts).0
      (sym w.are_same_but_contents.ensures ∙ sym w.value-is ∙ c.if-are_same_but_contents.true))
  | else-self-other-2 w ↦
      absurd (true≢false (sym c.if-are_same_but_contents.true ∙ w.value-is ∙ w.if-self-other-2.false))
]

pub returns-else-are_same_but_contents : goal.returns-else-are_same_but_contents
returns-else-are_same_but_contents c = (
  λ told. absurd (true≢false (sym told ∙ c.if-are_same_but_contents.false)),
  λ same.
      let mine : Cluster = cluster_in c.self.inside in
      let others : Cluster = cluster_in c.other.inside in
      let equal : mine ≡ others = c.self.view_is ∙ same ∙ sym c.other.view_is in
      elim c.if-self-other-2.branch [
        | then-self-other-2 w ↦
            w.value-is ∙ w.are_same_but_contents.ensures
            ∙ (same_parts mine.parts others.parts).1
            (ap (λ (s : Cluster). record s.parts { held = others.parts.held }) equal)
        | else-self-other-2 w ↦
            w.value-is
            ∙ elim c.if-self-other.branch [
              | then-self-other v ↦
                  v.value-is ∙ (tells_numbers mine.delay others.delay).1 (ap (λ (s : Cluster). s.delay) equal)
              | else-self-other v ↦
                  v.value-is
                  ∙ elim c.if-same.branch [
                    | then-same u ↦
                        u.value-is ∙ (tells_numbers mine.grace others.grace).1 (ap (λ (s : Cluster). s.grace) equal)
                    | else-same u ↦ u.value-is ∙ c.same.ensures.1 (ap (λ (s : Cluster). s.names) equal)
                  ]
            ]
      ],
)

pub returns-then-are_same_but_contents : goal.returns-then-are_same_but_contents
returns-then-are_same_but_contents c = elim c.if-self-other-2.branch [
  | then-self-other-2 w ↦ elim c.if-self-other.branch [
    | then-self-other v ↦ elim c.if-same.branch [
      | then-same u ↦
          told_by
          (told_by_rows (cluster_in c.self.inside) (cluster_in c.other.inside) c.self.inside.parts.bookies
          c.have_same_rows.result c.self.invariant.cluster c.other.invariant.cluster c.self.invariant.bookies
          (c.same.ensures.0 u.if-same.true)
          ((tells_numbers c.self.inside.grace c.other.inside.grace).0 (sym u.value-is ∙ v.if-self-other.true))
          ((tells_numbers c.self.inside.delay c.other.inside.delay).0 (sym v.value-is ∙ w.if-self-other-2.true))
          (sym w.are_same_but_contents.ensures ∙ sym w.value-is ∙ c.if-are_same_but_contents.true)
          c.have_same_rows.ensures)
          (λ same. sym c.self.view_is ∙ same ∙ c.other.view_is)
          (λ same. c.self.view_is ∙ same ∙ sym c.other.view_is)
      | else-same u ↦ absurd (true≢false (sym v.if-self-other.true ∙ u.value-is ∙ u.if-same.false))
    ]
    | else-self-other v ↦ absurd (true≢false (sym w.if-self-other-2.true ∙ v.value-is ∙ v.if-self-other.false))
  ]
  | else-self-other-2 w ↦
      absurd (true≢false (sym c.if-are_same_but_contents.true ∙ w.value-is ∙ w.if-self-other-2.false))
]
