-- The checks of the ledger that is found come in the order of the definition; where the place can't be taken, the reason
-- stands before those of the last entry, the fragments and the version.
use Rattle.std.proofs.Common.{◌≡◌, ◌∙◌, ap, sym, refl, rules, ℕ, ◌∷◌, [], ◌++◌, List, Option, None, Some}
use Rattle.reh_types.specs.declared.moves.Event.TheVariants.{Roll}
use Rattle.reh_types.specs.declared.refusals.Refusal.{Refusal}
use Rattle.reh_model.specs.Cluster.{Cluster, Ledger, ledger_at}
use Rattle.reh_model.specs.Metadata.{Fragment, last_fragment}
use Rattle.reh_model.specs.Checks.{first_reason}
use Rattle.reh_model.specs.Refusals.{with_ledger, at_ledger, no_bookie, not_open, no_index, member_up, target_down}
use Rattle.reh_model.specs.Refusals.{target_is_member, entry_end, fragments_full, version_end}
use Rattle.reh_model.specs.Step.{refusal_of, roll_checks}
use Rattle.reh_model.proofs.AcceptedLaws.{passed_before}
use Rattle.reh_model.proofs.CheckLaws.{first_reason-only, first_reason-found, first_reason-passed}
use Rattle.reh_step.proofs.decisions.check_roll.Goals as goal

-- what is asked of the place
abbrev place_checks : Cluster → ℕ → ℕ → Ledger → Fragment → List (Option Refusal)
place_checks s i b g last = no_index g i ∷ member_up s last i ∷ target_down s b ∷ target_is_member last b ∷ []

-- what is asked of the new fragment
abbrev room_checks : Cluster → Ledger → List (Option Refusal)
room_checks s g = entry_end s g ∷ fragments_full s g ∷ []

-- the checks of the place are of the last fragment
of_last : (s : Cluster) (i b : ℕ) (g : Ledger) (last : Fragment) (reason : Option Refusal) → last ≡ last_fragment g.metadata
    → first_reason (place_checks s i b g last) ≡ reason
    → first_reason (place_checks s i b g (last_fragment g.metadata)) ≡ reason
of_last s i b g last reason is checks =
    sym (ap (λ (f : Fragment). first_reason (place_checks s i b g f)) is) ∙ checks

-- where the ledger is open, the reasons of the place, of the room and of the version are left,
open_ledger : (s : Cluster) (l i b : ℕ) (g : Ledger) → no_bookie s b ≡ None → ledger_at s l ≡ Some g → not_open g ≡ None
    → refusal_of s (Roll l i b)
    ≡ first_reason (place_checks s i b g (last_fragment g.metadata) ++ (room_checks s g ++ version_end g ∷ []))
open_ledger s l i b g named found opened =
    passed_before s b l g (λ g. not_open g ∷ [])
    (λ g. place_checks s i b g (last_fragment g.metadata) ++ (room_checks s g ++ version_end g ∷ []))
    named found (λ j. first_reason (opened j ∷ []))

-- where the place can be taken, too, those of the room and of the version,
free_place : (s : Cluster) (l i b : ℕ) (g : Ledger) → no_bookie s b ≡ None → ledger_at s l ≡ Some g → not_open g ≡ None
    → first_reason (place_checks s i b g (last_fragment g.metadata)) ≡ None
    → refusal_of s (Roll l i b) ≡ first_reason (room_checks s g ++ version_end g ∷ [])
free_place s l i b g named found opened place =
    open_ledger s l i b g named found opened
    ∙ first_reason-passed (place_checks s i b g (last_fragment g.metadata)) (room_checks s g ++ version_end g ∷ []) place

-- and where there is room, the version's
last_check : (s : Cluster) (g : Ledger) → first_reason (room_checks s g) ≡ None
    → first_reason (room_checks s g ++ version_end g ∷ []) ≡ version_end g
last_check s g room =
    first_reason-passed (room_checks s g) (version_end g ∷ []) room ∙ first_reason-only (version_end g)

pub returns-in_err-check_bookie : goal.returns-in_err-check_bookie
returns-in_err-check_bookie c =
    let s : Cluster = c.args.state.now in
    search (
      rules,
      ap (λ (o : Option Refusal). first_reason (o ∷ at_ledger s c.args.ledger (roll_checks s c.args.index c.args.bookie) ∷ []))
          c.in_err-check_bookie.ensures,
    )

pub returns-in_err-found : goal.returns-in_err-found
returns-in_err-found c =
    let s : Cluster = c.args.state.now in
    let checks : Ledger → List (Option Refusal) = roll_checks s c.args.index c.args.bookie in
    let missing = c.in_err-found.ensures in
    search (
      rules,
      ap (λ (o : Option Refusal). first_reason (o ∷ at_ledger s c.args.ledger checks ∷ [])) c.in_ok-check_bookie.ensures
          ∙ ap (λ (o : Option Ledger). first_reason (with_ledger o checks ∷ [])) missing.0
          ∙ ap (λ (r : Refusal). Some r) (sym missing.1),
    )

pub returns-in_err-check_open : goal.returns-in_err-check_open
returns-in_err-check_open c =
    let s : Cluster = c.args.state.now in
    let i : ℕ = c.args.index in
    let b : ℕ = c.args.bookie in
    let g : Ledger = c.in_ok-found.found.ledger.now in
    search (
      rules,
      passed_before s b c.args.ledger g (λ _. []) (roll_checks s i b)
          c.in_ok-check_bookie.ensures c.in_ok-found.ensures.ledger refl
          ∙ ap (λ (o : Option Refusal). first_reason (o ∷ place_checks s i b g (last_fragment g.metadata)
          ++ (room_checks s g ++ version_end g ∷ []))) c.in_err-check_open.ensures,
    )

pub returns-in_err-check_member : goal.returns-in_err-check_member
returns-in_err-check_member c =
    let s : Cluster = c.args.state.now in
    let g : Ledger = c.in_ok-found.found.ledger.now in
    search (
      rules,
      open_ledger s c.args.ledger c.args.index c.args.bookie g
          c.in_ok-check_bookie.ensures c.in_ok-found.ensures.ledger c.in_ok-check_open.ensures
          ∙ first_reason-found (place_checks s c.args.index c.args.bookie g (last_fragment g.metadata))
          (room_checks s g ++ version_end g ∷ []) _
          (of_last s c.args.index c.args.bookie g c.last_fragment.result.now _ c.last_fragment.ensures.last
          c.in_err-check_member.ensures.checks),
    )

pub returns-in_err-next : goal.returns-in_err-next
returns-in_err-next c =
    let s : Cluster = c.args.state.now in
    let g : Ledger = c.in_ok-found.found.ledger.now in
    search (
      rules,
      free_place s c.args.ledger c.args.index c.args.bookie g
          c.in_ok-check_bookie.ensures c.in_ok-found.ensures.ledger c.in_ok-check_open.ensures
          (of_last s c.args.index c.args.bookie g c.last_fragment.result.now None c.last_fragment.ensures.last
          c.in_ok-check_member.ensures.checks)
          ∙ first_reason-found (room_checks s g) (version_end g ∷ []) _ c.in_err-next.ensures,
    )

pub returns-in_err-check_next_version : goal.returns-in_err-check_next_version
returns-in_err-check_next_version c =
    let s : Cluster = c.args.state.now in
    let g : Ledger = c.in_ok-found.found.ledger.now in
    search (
      rules,
      free_place s c.args.ledger c.args.index c.args.bookie g
          c.in_ok-check_bookie.ensures c.in_ok-found.ensures.ledger c.in_ok-check_open.ensures
          (of_last s c.args.index c.args.bookie g c.last_fragment.result.now None c.last_fragment.ensures.last
          c.in_ok-check_member.ensures.checks)
          ∙ last_check s g c.in_ok-next.ensures.0 ∙ c.in_err-check_next_version.ensures,
    )

pub returns : goal.returns
returns c =
    let s : Cluster = c.args.state.now in
    let g : Ledger = c.in_ok-found.found.ledger.now in (
      free_place s c.args.ledger c.args.index c.args.bookie g
          c.in_ok-check_bookie.ensures c.in_ok-found.ensures.ledger c.in_ok-check_open.ensures
          (of_last s c.args.index c.args.bookie g c.last_fragment.result.now None c.last_fragment.ensures.last
          c.in_ok-check_member.ensures.checks)
          ∙ last_check s g c.in_ok-next.ensures.0 ∙ c.in_ok-check_next_version.ensures,
      (c.in_ok-found.ensures, c.in_ok-next.ensures.1),
    )
