-- The bookie comes into the order of the others, and how it is shown beside its name.
use Rattle.std.proofs.Common.{◌≡◌, ◌∙◌, List, true, ap, arith, length, subst, sym}
use Rattle.std.specs.List.{insert}
use Rattle.std.proofs.lemmas.List.Edits.{length-insert}
use Rattle.reh_inputs.specs.Cluster.{Cluster, Keeps, is_shown_so}
use Rattle.reh_inputs.specs.Names.{place_of}
use Rattle.reh_inputs.specs.Shown.{Shown}
use Rattle.reh_inputs.proofs.AlikeLaws.{Keeps-new, so-new}
use Rattle.reh_inputs.proofs.UnitedLaws.{Matched}
use Rattle.reh_inputs.proofs.cluster.Cluster.insert.Goals as goal

pub invariant_of-self-2 : goal.invariant_of-self-2
invariant_of-self-2 c =
    let place = c.place_of-place.result in
    let shown : c.insert-2.new.self.items ≡ insert c.self.inside.shown.items place c.args.shown =
    c.in_ok-insert-2.ensures.items ∙ ap (λ (xs : List Shown). insert xs place c.args.shown) c.in_ok-reserve.ensures.items in
    omega (
      arith,
      ap length c.in_ok-insert.ensures.added,
      ap length shown,
      length-insert c.self.inside.names place c.args.name.now c.place_of-place.ensures.within,
      length-insert c.self.inside.shown.items place c.args.shown (omega (arith, c.place_of-place.ensures.within, c.self.invariant)),
      c.self.invariant,
    )

pub returns-clause-added : goal.returns-clause-added
returns-clause-added c =
    let name = c.args.name.now in
    let place : c.place_of-place.result ≡ place_of c.args.self.now.names name =
    c.place_of-place.ensures.place ∙ ap (λ (k : Cluster). place_of k.names name) c.self.view_is in
    let names : c.insert.new.self ≡ insert c.args.self.now.names (place_of c.args.self.now.names name) name =
    c.in_ok-insert.ensures.added ∙ (λ i. insert (c.self.view_is i).names (place i) name) in
    let shown : c.insert-2.new.self.items ≡ insert c.args.self.now.shown (place_of c.args.self.now.names name) c.args.shown =
    c.in_ok-insert-2.ensures.items
    ∙ ap (λ (xs : List Shown). insert xs c.place_of-place.result c.args.shown) c.in_ok-reserve.ensures.items
    ∙ (λ i. insert (c.self.view_is i).shown (place i) c.args.shown) in
    λ i. record { names = names i; shown = shown i }

pub returns-clause-shown : goal.returns-clause-shown
returns-clause-shown c =
    subst (λ (k : Cluster). is_shown_so k c.args.name.now c.args.shown ≡ true) (sym (returns-clause-added c))
    (so-new c.args.self.now c.args.name.now c.args.shown (subst Matched c.self.view_is (sym c.self.invariant)) c.requires.new)

pub returns-clause-kept : goal.returns-clause-kept
returns-clause-kept c =
    subst (λ (k : Cluster). Keeps c.args.self.now k) (sym (returns-clause-added c))
    (Keeps-new c.args.self.now c.args.name.now c.args.shown (subst Matched c.self.view_is (sym c.self.invariant)) c.requires.new)
