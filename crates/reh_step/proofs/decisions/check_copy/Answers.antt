-- A wrong place refuses the copy first; after it comes the first striped entry that can't be read.
use Rattle.std.proofs.Common.{◌≡◌, ◌∙◌, ap, sym, rules, not, ℕ, Bool, [], ◌∷◌, List, Option, None, Some}
use Rattle.std.specs.List.{find}
use Rattle.reh_types.specs.declared.names.Aim.{Aim}
use Rattle.reh_types.specs.declared.refusals.Refusal.{Refusal}
use Rattle.reh_types.specs.declared.refusals.Refusal.TheVariants.{NoSource}
use Rattle.reh_model.specs.Metadata.{stripe_of}
use Rattle.reh_model.specs.Cluster.{Cluster, Ledger, is_readable}
use Rattle.reh_model.specs.Checks.{first_reason}
use Rattle.reh_model.specs.Refusals.{no_source}
use Rattle.reh_model.specs.Step.{place_checks}
use Rattle.reh_model.proofs.AcceptedLaws.{refused_before, passed_before}
use Rattle.reh_model.proofs.LedgerLaws.{stripe_at-found}
use Rattle.reh_step.proofs.decisions.check_copy.Goals as goal

-- what a copy asks after its place
abbrev later_checks : Cluster → ℕ → ℕ → Ledger → List (Option Refusal)
later_checks s f i g = no_source s g f i ∷ []

pub returns-in_err-place : goal.returns-in_err-place
returns-in_err-place c =
    let s : Cluster = c.args.state.now in
    let aim : Aim = c.args.aim.now in
    search (
      rules,
      refused_before s aim.worker aim.ledger (place_checks s aim.worker aim.fragment aim.index c.args.version)
          (later_checks s aim.fragment aim.index) _ c.in_err-place.ensures,
    )

pub returns-in-Some : goal.returns-in-Some
returns-in-Some c =
    let s : Cluster = c.args.state.now in
    let aim : Aim = c.args.aim.now in
    let g : Ledger = c.in_ok-place.place.found.ledger.now in
    let lost : ℕ → Bool = λ e. not (is_readable s g c.in_ok-place.place.fragment.now e) in
    let first : find lost (stripe_of g.metadata aim.fragment aim.index) ≡ Some c.in-Some.entry =
    ap (λ (es : List ℕ). find lost es) (sym (c.duplicate-entries.ensures ∙ c.in_ok-place.ensures.1.entries))
    ∙ sym c.first_unreadable.ensures ∙ c.in-Some.is in
    let refused : first_reason (no_source s g aim.fragment aim.index ∷ []) ≡ Some (NoSource c.in-Some.entry) =
    search (rules, first) in
    passed_before s aim.worker aim.ledger g (place_checks s aim.worker aim.fragment aim.index c.args.version)
    (later_checks s aim.fragment aim.index)
    c.in_ok-place.ensures.0 c.in_ok-place.ensures.1.found.ledger c.in_ok-place.ensures.2
    ∙ refused

pub returns : goal.returns
returns c =
    let s : Cluster = c.args.state.now in
    let aim : Aim = c.args.aim.now in
    let place = c.in_ok-place.ensures in
    let g : Ledger = c.in_ok-place.place.found.ledger.now in
    let lost : ℕ → Bool = λ e. not (is_readable s g c.in_ok-place.place.fragment.now e) in
    let none : find lost (stripe_of g.metadata aim.fragment aim.index) ≡ None =
    ap (λ (es : List ℕ). find lost es) (sym (c.duplicate-entries.ensures ∙ place.1.entries))
    ∙ sym c.first_unreadable.ensures ∙ search rules in
    let readable : first_reason (no_source s g aim.fragment aim.index ∷ []) ≡ None = search (rules, none) in (
      passed_before s aim.worker aim.ledger g (place_checks s aim.worker aim.fragment aim.index c.args.version)
          (later_checks s aim.fragment aim.index)
          place.0 place.1.found.ledger place.2 ∙ readable,
      place.1.entries ∙ sym (stripe_at-found s aim.ledger aim.fragment aim.index g place.1.found.ledger),
    )
