-- Each part is copied as it is.
use Rattle.std.proofs.Common.{◌≡◌, ◌∙◌, sym, subst, List}
use Rattle.std.proofs.lemmas.List.Elements.{same_from_all_zip}
use Rattle.reh_types.specs.declared.moves.Event.{Event}
use Rattle.reh_model.specs.Cluster.{Cluster}
use Rattle.reh_model.specs.Places.{Change}
use Rattle.reh_session.specs.Kept.{session_of, IsKept}
use Rattle.reh_session.proofs.sessions.Session.clone_in.Goals as goal

pub invariant_of-result : goal.invariant_of-result
invariant_of-result c =
    let events : c.in_ok-events.events.items ≡ c.self.inside.events.items =
    same_from_all_zip _ _ _ c.in_ok-events.ensures.cases.0 (λ x y is. is) in
    subst (λ (s : Cluster).
    IsKept s c.in_ok-events.events.items c.in_ok-records.records.items c.self.inside.cursor)
    (sym c.in_ok-clone_in.ensures)
    (subst (λ (es : List Event).
    IsKept c.self.inside.state es c.in_ok-records.records.items c.self.inside.cursor) (sym events)
    (subst (λ (rs : List (List Change)).
    IsKept c.self.inside.state c.self.inside.events.items rs c.self.inside.cursor) (sym c.in_ok-records.ensures)
    c.self.invariant))

pub returns : goal.returns
returns c =
    let state : c.in_ok-clone_in.field-0 ≡ c.self.inside.state = c.in_ok-clone_in.ensures in
    let events : c.in_ok-events.events.items ≡ c.self.inside.events.items =
    same_from_all_zip _ _ _ c.in_ok-events.ensures.cases.0 (λ x y is. is) in
    let records : c.in_ok-records.records.items ≡ c.self.inside.records.items = c.in_ok-records.ensures in
    (λ j. session_of (state j) (events j) (records j) c.self.inside.cursor) ∙ c.self.view_is
