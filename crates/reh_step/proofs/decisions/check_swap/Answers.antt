-- A wrong place refuses the swap first; after it comes the first striped entry that the worker's bookie lacks.
use Rattle.std.proofs.Common.{◌≡◌, ◌∙◌, ap, sym, rules, not, ℕ, Bool, [], ◌∷◌, List, Option, None, Some}
use Rattle.std.specs.List.{find}
use Rattle.std.specs.Option.{option_map}
use Rattle.reh_types.specs.declared.names.Aim.{Aim}
use Rattle.reh_types.specs.declared.moves.Event.TheVariants.{Swap}
use Rattle.reh_types.specs.declared.refusals.Refusal.{Refusal}
use Rattle.reh_types.specs.declared.refusals.Refusal.TheVariants.{MissingEntry}
use Rattle.reh_model.specs.Metadata.{stripe_of}
use Rattle.reh_model.specs.Cluster.{Cluster, Ledger, holds}
use Rattle.reh_model.specs.Checks.{first_reason}
use Rattle.reh_model.specs.Refusals.{no_bookie, missing_entry, version_end}
use Rattle.reh_model.specs.Step.{refusal_of, place_checks}
use Rattle.reh_model.proofs.CheckLaws.{first_reason-only}
use Rattle.reh_model.proofs.AcceptedLaws.{refused_before, passed_before}
use Rattle.reh_step.specs.declared.decisions.EnsemblePlace.{EnsemblePlace}
use Rattle.reh_step.specs.Places.{IsPlace}
use Rattle.reh_step.proofs.decisions.check_swap.Goals as goal

-- what a swap asks after its place
abbrev later_checks : Cluster → ℕ → ℕ → ℕ → Ledger → List (Option Refusal)
later_checks s w f i g = missing_entry s w g f i ∷ version_end g ∷ []

pub returns-in_err-place : goal.returns-in_err-place
returns-in_err-place c =
    let s : Cluster = c.args.state.now in
    let aim : Aim = c.args.aim.now in
    search (
      rules,
      refused_before s aim.worker aim.ledger (place_checks s aim.worker aim.fragment aim.index c.args.version)
          (later_checks s aim.worker aim.fragment aim.index)
          _ c.in_err-place.ensures,
    )

pub returns-in-Some : goal.returns-in-Some
returns-in-Some c =
    let s : Cluster = c.args.state.now in
    let aim : Aim = c.args.aim.now in
    let g : Ledger = c.in_ok-place.place.found.ledger.now in
    let lacked : ℕ → Bool = λ e. not (holds s aim.worker g.id e) in
    let first : find lacked (stripe_of g.metadata aim.fragment aim.index) ≡ Some c.in-Some.entry =
    ap (λ (es : List ℕ). find lacked es) (sym c.in_ok-place.ensures.1.entries) ∙ sym c.first_lacked.ensures
    ∙ c.in-Some.is in
    passed_before s aim.worker aim.ledger g (place_checks s aim.worker aim.fragment aim.index c.args.version)
    (later_checks s aim.worker aim.fragment aim.index)
    c.in_ok-place.ensures.0 c.in_ok-place.ensures.1.found.ledger c.in_ok-place.ensures.2
    ∙ ap (λ (o : Option ℕ). first_reason (option_map (λ e. MissingEntry e) o ∷ version_end g ∷ [])) first

-- where no entry is lacked, the version's reason is left
behind : (s : Cluster) (aim : Aim) (v : ℕ) (place : EnsemblePlace) → no_bookie s aim.worker ≡ None → IsPlace s aim place
    → first_reason (place_checks s aim.worker aim.fragment aim.index v place.found.ledger.now) ≡ None
    → find (λ e. not (holds s aim.worker place.found.ledger.now.id e)) place.entries ≡ None
    → refusal_of s (Swap aim.worker aim.ledger aim.fragment aim.index v) ≡ version_end place.found.ledger.now
behind s aim v place named is passed none =
    let g : Ledger = place.found.ledger.now in
    let lacked : ℕ → Bool = λ e. not (holds s aim.worker g.id e) in
    passed_before s aim.worker aim.ledger g (place_checks s aim.worker aim.fragment aim.index v)
    (later_checks s aim.worker aim.fragment aim.index) named is.found.ledger passed
    ∙ ap (λ (o : Option ℕ). first_reason (option_map (λ e. MissingEntry e) o ∷ version_end g ∷ []))
    (ap (λ (es : List ℕ). find lacked es) (sym is.entries) ∙ none)
    ∙ first_reason-only (version_end g)

pub returns-in_err-check_next_version : goal.returns-in_err-check_next_version
returns-in_err-check_next_version c =
    let place = c.in_ok-place.ensures in
    let none = sym c.first_lacked.ensures ∙ c.in_default.is in
    search (
      rules,
      behind c.args.state.now c.args.aim.now c.args.version c.in_ok-place.place place.0 place.1 place.2 none
          ∙ c.in_err-check_next_version.ensures,
    )

pub returns : goal.returns
returns c =
    let place = c.in_ok-place.ensures in
    let none = sym c.first_lacked.ensures ∙ c.in_default.is in (
      behind c.args.state.now c.args.aim.now c.args.version c.in_ok-place.place place.0 place.1 place.2 none
          ∙ c.in_ok-check_next_version.ensures,
      place.1.found,
    )
