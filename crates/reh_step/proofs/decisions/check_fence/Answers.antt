-- The checks of the ledger that is found come in the order of the definition.
use Rattle.std.proofs.Common.{◌≡◌, ◌∙◌, ap, sym, refl, rules, arith, ℕ, nat_lt, false, ◌∷◌, [], Option, None, Some}
use Rattle.std.specs.Prelude.{is_none}
use Rattle.std.proofs.lemmas.Bool.Decides.{nat_tests}
use Rattle.reh_types.specs.declared.refusals.Refusal.{Refusal}
use Rattle.reh_types.specs.declared.refusals.Refusal.TheVariants.{NoGrace, GraceRuns}
use Rattle.reh_model.specs.Cluster.{Cluster, Ledger, due_of, ledger_at}
use Rattle.reh_model.specs.Checks.{first_reason, reason_if}
use Rattle.reh_model.specs.Refusals.{no_bookie, not_owner, not_open, not_needed, no_grace, grace_runs, version_end}
use Rattle.reh_model.specs.Step.{refusal_of}
use Rattle.reh_types.specs.declared.moves.Event.TheVariants.{Fence}
use Rattle.reh_model.proofs.CheckLaws.{first_reason-only}
use Rattle.reh_model.proofs.AcceptedLaws.{refused_before, passed_before}
use Rattle.reh_step.proofs.decisions.check_fence.Goals as goal

-- where the ledger's writer is needed, the reasons of the grace and of the version are left,
behind : (s : Cluster) (w l : ℕ) (g : Ledger) → no_bookie s w ≡ None → ledger_at s l ≡ Some g → not_owner w g ≡ None
    → not_open g ≡ None → not_needed s g ≡ None
    → refusal_of s (Fence w l) ≡ first_reason (no_grace g ∷ grace_runs s g ∷ version_end g ∷ [])
behind s w l g named found owner opened needed =
    passed_before s w l g (λ g. not_owner w g ∷ not_open g ∷ not_needed s g ∷ [])
    (λ g. no_grace g ∷ grace_runs s g ∷ version_end g ∷ [])
    named found (λ j. first_reason (owner j ∷ opened j ∷ needed j ∷ []))

-- and where the grace is over, the version's
last : (s : Cluster) (g : Ledger) (due : ℕ) → due_of g ≡ Some due → nat_lt s.parts.scalars.clock due ≡ false
    → first_reason (no_grace g ∷ grace_runs s g ∷ version_end g ∷ []) ≡ version_end g
last s g due is over =
    ap (λ (o : Option ℕ). first_reason (reason_if (is_none o) NoGrace ∷ grace_runs s g ∷ version_end g ∷ [])) is
    ∙ ap (λ (o : Option Refusal). first_reason (o ∷ version_end g ∷ [])) (runs ∙ ap (λ b. reason_if b (GraceRuns due)) over)
    ∙ first_reason-only (version_end g) where
      runs : grace_runs s g ≡ reason_if (nat_lt s.parts.scalars.clock due) (GraceRuns due)
      runs = rw is refl

pub returns-in_err-found : goal.returns-in_err-found
returns-in_err-found c =
    let s : Cluster = c.args.state.now in
    let w : ℕ = c.args.worker in
    search (
      rules,
      refused_before s w c.args.ledger (λ g. not_owner w g ∷ [])
          (λ g. not_open g ∷ not_needed s g ∷ no_grace g ∷ grace_runs s g ∷ version_end g ∷ []) _ c.in_err-found.ensures,
    )

pub returns-in_err-check_open : goal.returns-in_err-check_open
returns-in_err-check_open c =
    let s : Cluster = c.args.state.now in
    let w : ℕ = c.args.worker in
    let g : Ledger = c.in_ok-found.found.ledger.now in
    let found = c.in_ok-found.ensures in
    search (
      rules,
      passed_before s w c.args.ledger g (λ g. not_owner w g ∷ [])
          (λ g. not_open g ∷ not_needed s g ∷ no_grace g ∷ grace_runs s g ∷ version_end g ∷ [])
          found.0 found.1.ledger (λ j. first_reason (found.2 j ∷ []))
          ∙ ap (λ (o : Option Refusal). first_reason (o ∷ not_needed s g ∷ no_grace g ∷ grace_runs s g ∷ version_end g ∷ []))
          c.in_err-check_open.ensures,
    )

pub returns-in_err-check_needed : goal.returns-in_err-check_needed
returns-in_err-check_needed c =
    let s : Cluster = c.args.state.now in
    let w : ℕ = c.args.worker in
    let g : Ledger = c.in_ok-found.found.ledger.now in
    let found = c.in_ok-found.ensures in
    let opened : not_open g ≡ None = c.in_ok-check_open.ensures in
    search (
      rules,
      passed_before s w c.args.ledger g (λ g. not_owner w g ∷ not_open g ∷ [])
          (λ g. not_needed s g ∷ no_grace g ∷ grace_runs s g ∷ version_end g ∷ [])
          found.0 found.1.ledger (λ j. first_reason (found.2 j ∷ opened j ∷ []))
          ∙ ap (λ (o : Option Refusal). first_reason (o ∷ no_grace g ∷ grace_runs s g ∷ version_end g ∷ []))
          c.in_err-check_needed.ensures,
    )

pub returns-in_default : goal.returns-in_default
returns-in_default c =
    let s : Cluster = c.args.state.now in
    let g : Ledger = c.in_ok-found.found.ledger.now in
    let found = c.in_ok-found.ensures in
    behind s c.args.worker c.args.ledger g found.0 found.1.ledger found.2
    c.in_ok-check_open.ensures c.in_ok-check_needed.ensures
    ∙ ap (λ (o : Option ℕ). first_reason (reason_if (is_none o) NoGrace ∷ grace_runs s g ∷ version_end g ∷ []))
    (sym c.due_of.ensures ∙ c.in_default.is)

pub returns-in_err-check_next_version : goal.returns-in_err-check_next_version
returns-in_err-check_next_version c =
    let s : Cluster = c.args.state.now in
    let g : Ledger = c.in_ok-found.found.ledger.now in
    let found = c.in_ok-found.ensures in
    let over : nat_lt s.parts.scalars.clock c.in-Some.due ≡ false = grind (arith, nat_tests) in
    search (
      rules,
      behind s c.args.worker c.args.ledger g found.0 found.1.ledger found.2
          c.in_ok-check_open.ensures c.in_ok-check_needed.ensures
          ∙ last s g c.in-Some.due (sym c.due_of.ensures ∙ c.in-Some.is) over ∙ c.in_err-check_next_version.ensures,
    )

pub returns : goal.returns
returns c =
    let s : Cluster = c.args.state.now in
    let g : Ledger = c.in_ok-found.found.ledger.now in
    let found = c.in_ok-found.ensures in
    let over : nat_lt s.parts.scalars.clock c.in-Some.due ≡ false = grind (arith, nat_tests) in (
      behind s c.args.worker c.args.ledger g found.0 found.1.ledger found.2
          c.in_ok-check_open.ensures c.in_ok-check_needed.ensures
          ∙ last s g c.in-Some.due (sym c.due_of.ensures ∙ c.in-Some.is) over ∙ c.in_ok-check_next_version.ensures,
      found.1,
    )
