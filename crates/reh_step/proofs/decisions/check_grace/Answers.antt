-- The checks of the ledger that is found come in the order of the definition.
use Rattle.std.proofs.Common.{◌≡◌, ◌∙◌, ap, sym, refl, rules, ℕ, ◌∷◌, [], Option, None}
use Rattle.std.specs.Option.{option_map}
use Rattle.reh_types.specs.declared.refusals.Refusal.{Refusal}
use Rattle.reh_types.specs.declared.refusals.Refusal.TheVariants.{GraceSet}
use Rattle.reh_model.specs.Cluster.{Cluster, Ledger, due_of}
use Rattle.reh_model.specs.Checks.{first_reason}
use Rattle.reh_model.specs.Refusals.{not_owner, not_open, not_needed, grace_set}
use Rattle.reh_model.specs.Step.{grace_checks}
use Rattle.reh_model.proofs.AcceptedLaws.{refused_before, passed_before}
use Rattle.reh_step.proofs.decisions.check_grace.Goals as goal

pub returns-in_err-found : goal.returns-in_err-found
returns-in_err-found c =
    let s : Cluster = c.args.state.now in
    let w : ℕ = c.args.worker in
    search (
      rules,
      refused_before s w c.args.ledger (λ g. not_owner w g ∷ []) (λ g. not_open g ∷ not_needed s g ∷ grace_set g ∷ []) _
          c.in_err-found.ensures,
    )

pub returns-in_err-check_open : goal.returns-in_err-check_open
returns-in_err-check_open c =
    let s : Cluster = c.args.state.now in
    let w : ℕ = c.args.worker in
    let g : Ledger = c.in_ok-found.found.ledger.now in
    let found = c.in_ok-found.ensures in
    search (
      rules,
      passed_before s w c.args.ledger g (λ g. not_owner w g ∷ []) (λ g. not_open g ∷ not_needed s g ∷ grace_set g ∷ [])
          found.0 found.1.ledger (λ j. first_reason (found.2 j ∷ []))
          ∙ ap (λ (o : Option Refusal). first_reason (o ∷ not_needed s g ∷ grace_set g ∷ [])) c.in_err-check_open.ensures,
    )

pub returns-in_err-check_needed : goal.returns-in_err-check_needed
returns-in_err-check_needed c =
    let s : Cluster = c.args.state.now in
    let w : ℕ = c.args.worker in
    let g : Ledger = c.in_ok-found.found.ledger.now in
    let found = c.in_ok-found.ensures in
    let opened : not_open g ≡ None = c.in_ok-check_open.ensures in
    search (
      rules,
      passed_before s w c.args.ledger g (λ g. not_owner w g ∷ not_open g ∷ []) (λ g. not_needed s g ∷ grace_set g ∷ [])
          found.0 found.1.ledger (λ j. first_reason (found.2 j ∷ opened j ∷ []))
          ∙ ap (λ (o : Option Refusal). first_reason (o ∷ grace_set g ∷ [])) c.in_err-check_needed.ensures,
    )

pub returns-in-Some : goal.returns-in-Some
returns-in-Some c =
    let s : Cluster = c.args.state.now in
    let w : ℕ = c.args.worker in
    let g : Ledger = c.in_ok-found.found.ledger.now in
    let found = c.in_ok-found.ensures in
    let opened : not_open g ≡ None = c.in_ok-check_open.ensures in
    let needed : not_needed s g ≡ None = c.in_ok-check_needed.ensures in
    passed_before s w c.args.ledger g (λ g. not_owner w g ∷ not_open g ∷ not_needed s g ∷ []) (λ g. grace_set g ∷ [])
    found.0 found.1.ledger (λ j. first_reason (found.2 j ∷ opened j ∷ needed j ∷ []))
    ∙ ap (λ (o : Option ℕ). first_reason (option_map (λ due. GraceSet due) o ∷ []))
    (sym c.due_of.ensures ∙ c.in-Some.is)

pub returns : goal.returns
returns c =
    let s : Cluster = c.args.state.now in
    let w : ℕ = c.args.worker in
    let g : Ledger = c.in_ok-found.found.ledger.now in
    let found = c.in_ok-found.ensures in
    let opened : not_open g ≡ None = c.in_ok-check_open.ensures in
    let needed : not_needed s g ≡ None = c.in_ok-check_needed.ensures in
    let due : due_of g ≡ None = sym c.due_of.ensures ∙ c.in_default.is in (
      passed_before s w c.args.ledger g (λ _. []) (grace_checks s w) found.0 found.1.ledger refl
          ∙ (λ j. first_reason (found.2 j ∷ opened j ∷ needed j ∷ option_map (λ due. GraceSet due) (due j) ∷ [])),
      found.1,
    )
