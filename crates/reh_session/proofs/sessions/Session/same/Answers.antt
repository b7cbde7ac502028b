-- Sessions are equal exactly where state, cursor, events and the records of the surviving events are.
use Rattle.std.proofs.Common.{◌∙◌, sym, take, true≢false}
use Rattle.std.proofs.lemmas.Slice.Eq.{slice_eq-Decides}
use Rattle.reh_types.specs.Same.{told_by, tells_numbers}
use Rattle.reh_types.proofs.EventLaws.{events_tell}
use Rattle.reh_session.proofs.SameLaws.{sessions_are_parts, told_by_records}
use Rattle.reh_session.proofs.sessions.Session.same.Goals.{then-self-other, else-self-other, then-eq, else-eq}
use Rattle.reh_session.proofs.sessions.Session.same.Goals as goal

pub returns-then-same : goal.returns-then-same
returns-then-same c = elim c.if-eq.branch [
  | then-eq w ↦ elim c.if-self-other.branch [
    | then-self-other v ↦
        told_by
        (told_by_records c.self.inside.state c.other.inside.state c.self.inside.events.items
        c.other.inside.events.items c.self.inside.records.items c.other.inside.records.items c.self.inside.cursor
        c.other.inside.cursor c.self.invariant c.other.invariant _ _ c.are_same.result
        (λ i. take c.self.inside.cursor (c.deref.ensures.value i))
        (λ i. take c.other.inside.cursor (c.deref-then-same.ensures.value i))
        (w.same.ensures.0 (sym w.value-is ∙ c.if-same.true)) v.if-self-other.true
        ((slice_eq-Decides events_tell _ _ v.eq.result v.eq.ensures).0 (sym v.value-is ∙ w.if-eq.true))
        c.are_same.ensures)
        (λ same. sym c.self.view_is ∙ same ∙ c.other.view_is)
        (λ same. c.self.view_is ∙ same ∙ sym c.other.view_is)
    | else-self-other v ↦
        absurd (v.if-self-other.false
        ((tells_numbers c.self.inside.cursor c.other.inside.cursor).0 (sym v.value-is ∙ w.if-eq.true)))
  ]
  | else-eq w ↦ absurd (true≢false (sym c.if-same.true ∙ w.value-is ∙ w.if-eq.false))
]

pub returns-else-same : goal.returns-else-same
returns-else-same c = (
  λ told. absurd (true≢false (sym told ∙ c.if-same.false)),
  λ same.
      let parts = sessions_are_parts c.self.inside.state c.other.inside.state c.self.inside.events.items
      c.other.inside.events.items c.self.inside.records.items c.other.inside.records.items c.self.inside.cursor
      c.other.inside.cursor c.self.invariant c.other.invariant (c.self.view_is ∙ same ∙ sym c.other.view_is) in
      elim c.if-eq.branch [
        | then-eq w ↦ w.value-is ∙ w.same.ensures.1 parts.state
        | else-eq w ↦
            w.value-is
            ∙ elim c.if-self-other.branch [
              | then-self-other v ↦
                  v.value-is ∙ (slice_eq-Decides events_tell _ _ v.eq.result v.eq.ensures).1 parts.events
              | else-self-other v ↦
                  v.value-is ∙ (tells_numbers c.self.inside.cursor c.other.inside.cursor).1 parts.cursor
            ]
      ],
)
