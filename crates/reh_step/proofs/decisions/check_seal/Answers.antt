-- The checks of the ledger that is found come in the order of the definition; where the recovery's members do not answer
-- as they must, the reason stands before the version's.
use Rattle.std.proofs.Common.{◌≡◌, ◌∙◌, rules, ℕ, ◌∷◌, [], ◌++◌, List, Option, None, Some}
use Rattle.reh_types.specs.declared.moves.Event.TheVariants.{Seal}
use Rattle.reh_types.specs.declared.refusals.Refusal.{Refusal}
use Rattle.reh_model.specs.Cluster.{Cluster, Ledger, ledger_at}
use Rattle.reh_model.specs.Checks.{first_reason}
use Rattle.reh_model.specs.Refusals.{no_bookie, not_owner, not_recovering, too_few, undecided, version_end}
use Rattle.reh_model.specs.Step.{refusal_of}
use Rattle.reh_model.proofs.AcceptedLaws.{refused_before, passed_before}
use Rattle.reh_model.proofs.CheckLaws.{first_reason-only, first_reason-found, first_reason-passed}
use Rattle.reh_step.proofs.decisions.check_seal.Goals as goal

-- what is asked of the recovery's members
abbrev member_checks : Cluster → Ledger → List (Option Refusal)
member_checks s g = too_few s g ∷ undecided s g ∷ []

-- where the ledger is in recovery, the reasons of its members and of the version are left,
behind : (s : Cluster) (w l : ℕ) (g : Ledger) → no_bookie s w ≡ None → ledger_at s l ≡ Some g → not_owner w g ≡ None
    → not_recovering g ≡ None → refusal_of s (Seal w l) ≡ first_reason (member_checks s g ++ version_end g ∷ [])
behind s w l g named found owner recovering =
    passed_before s w l g (λ g. not_owner w g ∷ not_recovering g ∷ []) (λ g. member_checks s g ++ version_end g ∷ [])
    named found (λ j. first_reason (owner j ∷ recovering j ∷ []))

-- and where they answer as they must, the version's
last : (s : Cluster) (g : Ledger) → first_reason (member_checks s g) ≡ None
    → first_reason (member_checks s g ++ version_end g ∷ []) ≡ version_end g
last s g answered =
    first_reason-passed (member_checks s g) (version_end g ∷ []) answered ∙ first_reason-only (version_end g)

pub returns-in_err-found : goal.returns-in_err-found
returns-in_err-found c =
    let s : Cluster = c.args.state.now in
    let w : ℕ = c.args.worker in
    search (
      rules,
      refused_before s w c.args.ledger (λ g. not_owner w g ∷ [])
          (λ g. not_recovering g ∷ too_few s g ∷ undecided s g ∷ version_end g ∷ []) _ c.in_err-found.ensures,
    )

pub returns-in_err-end : goal.returns-in_err-end
returns-in_err-end c =
    let s : Cluster = c.args.state.now in
    let g : Ledger = c.in_ok-found.found.ledger.now in
    let found = c.in_ok-found.ensures in
    let recovering : not_recovering g ≡ None = search rules in
    search (
      rules,
      behind s c.args.worker c.args.ledger g found.0 found.1.ledger found.2 recovering
          ∙ first_reason-found (member_checks s g) (version_end g ∷ []) _ c.in_err-end.ensures,
    )

pub returns-in_err-check_next_version : goal.returns-in_err-check_next_version
returns-in_err-check_next_version c =
    let s : Cluster = c.args.state.now in
    let g : Ledger = c.in_ok-found.found.ledger.now in
    let found = c.in_ok-found.ensures in
    let recovering : not_recovering g ≡ None = search rules in
    search (
      rules,
      behind s c.args.worker c.args.ledger g found.0 found.1.ledger found.2 recovering
          ∙ last s g c.in_ok-end.ensures.0 ∙ c.in_err-check_next_version.ensures,
    )

pub returns : goal.returns
returns c =
    let s : Cluster = c.args.state.now in
    let g : Ledger = c.in_ok-found.found.ledger.now in
    let found = c.in_ok-found.ensures in
    let recovering : not_recovering g ≡ None = search rules in (
      behind s c.args.worker c.args.ledger g found.0 found.1.ledger found.2 recovering
          ∙ last s g c.in_ok-end.ensures.0 ∙ c.in_ok-check_next_version.ensures,
      (found.1, c.in_ok-end.ensures.1),
    )
