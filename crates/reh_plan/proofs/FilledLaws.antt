-- Who copies and takes places is registered, since each event is accepted.
use Rattle.std.proofs.Common.{◌≡◌, ◌∙◌, ℕ, Bool, true, false, cond, List, [], ◌∷◌, ◌++◌, refl, sym, ap, subst, Option, None, Some, is_some}
use Rattle.std.specs.Prelude.{◌&&◌, is_none, slice_get}
use Rattle.std.specs.List.{filter, flat_map, list_all, range_with_len}
use Rattle.std.specs.Option.{option_map_or}
use Rattle.std.proofs.lemmas.Option.{same_Some}
use Rattle.reh_types.specs.declared.moves.Event.{Event}
use Rattle.reh_types.specs.declared.moves.Event.TheVariants.{Lose, Roll, Copy, Swap}
use Rattle.reh_types.specs.declared.refusals.Refusal.{Refusal}
use Rattle.reh_model.specs.Cluster.{Cluster, Ledger, is_up}
use Rattle.reh_model.specs.Session.{replay}
use Rattle.reh_model.specs.Checks.{first_reason}
use Rattle.reh_model.specs.Refusals.{at_ledger, no_bookie, not_owner, stale_version, no_index, member_up, target_down}
use Rattle.reh_model.specs.Refusals.{target_is_member, no_endpoint, no_place, no_source, missing_entry, version_end}
use Rattle.reh_model.specs.Refusals.{entry_end, fragments_full, not_open}
use Rattle.reh_model.specs.Metadata.{last_fragment}
use Rattle.reh_model.specs.Step.{refusal_of, after, place_checks, roll_checks}
use Rattle.reh_model.proofs.AcceptedLaws.{accepted_ledger, not_not, with_fragment-none}
use Rattle.reh_model.proofs.CheckLaws.{check-none, reason_if-none}
use Rattle.reh_model.proofs.SessionLaws.{replay_first}
use Rattle.reh_plan.specs.Plans.{GoesOnBy, is_filled_by, is_work_by, loss_of, losses_of}
use Rattle.reh_plan.specs.Workers.{Rules, can_work, may_work}
use Rattle.reh_plan.proofs.PlanLaws.{both_true, first_true, lost_at-after}

pub second_true : (a b : Bool) → (a && b) ≡ true → b ≡ true
second_true true b both = both
second_true false b both = cc

-- the worker of a copy or a swap that is accepted
place_up : (s : Cluster) (w l f i v : ℕ) (more : Ledger → List (Option Refusal))
    → first_reason (no_bookie s w ∷ at_ledger s l (λ g. place_checks s w f i v g ++ more g) ∷ []) ≡ None → is_up s w ≡ true
place_up s w l f i v more none =
    let found = accepted_ledger s w l (λ g. place_checks s w f i v g ++ more g) none in
    let g : Ledger = found.ledger in
    let place = with_fragment-none (slice_get g.metadata.fragments f) _
    (check-none (not_owner w g ∷ stale_version g v ∷ []) (no_place s w g f i) (more g) found.passes) in
    not_not (is_up s w)
    (reason_if-none _ _
    (check-none (no_index g i ∷ member_up s place.fragment i ∷ []) (target_down s w)
    (target_is_member place.fragment w ∷ no_endpoint g f ∷ []) place.passes))

-- the bookie of a roll that is accepted
roller_up : (s : Cluster) (l i b : ℕ) → refusal_of s (Roll l i b) ≡ None → is_up s b ≡ true
roller_up s l i b none =
    let found = accepted_ledger s b l (roll_checks s i b) none in
    let g : Ledger = found.ledger in
    let last = last_fragment g.metadata in
    not_not (is_up s b)
    (reason_if-none _ _
    (check-none (not_open g ∷ no_index g i ∷ member_up s last i ∷ []) (target_down s b)
    (target_is_member last b ∷ entry_end s g ∷ fragments_full s g ∷ version_end g ∷ []) found.passes))

-- work leaves who is registered
up_after : (rules : Rules) (s : Cluster) (event : Event) → is_work_by rules event ≡ true → (b : ℕ)
    → is_up (after s event) b ≡ is_up s b
up_after rules s event by b =
    ap (λ (xs : List (Option ℕ)). option_map_or is_none (slice_get xs b) false) (lost_at-after rules s event by)

up_replay : (rules : Rules) (events : List Event) (s t : Cluster) → list_all (is_work_by rules) events ≡ true
    → replay s events ≡ Some t → (b : ℕ) → is_up t b ≡ is_up s b
up_replay rules [] s t by is b = ap (λ (c : Cluster). is_up c b) (sym (same_Some s t is))
up_replay rules (event ∷ events) s t by is b =
    let first = replay_first s event events (ap is_some is) in
    up_replay rules events (after s event) t (second_true _ _ by) (sym first.1 ∙ is) b
    ∙ up_after rules s event (first_true _ _ by) b

filled_one : (rules : Rules) (s t : Cluster) (event : Event) → refusal_of s event ≡ None → is_work_by rules event ≡ true
    → ((b : ℕ) → is_up t b ≡ is_up s b) → is_filled_by (can_work (may_work rules) t) event ≡ true
filled_one rules s t (Copy w l f i v) none by same =
    both_true (may_work rules w) (is_up t w) by (same w ∙ place_up s w l f i v (λ g. no_source s g f i ∷ []) none)
filled_one rules s t (Swap w l f i v) none by same =
    both_true (may_work rules w) (is_up t w) by
    (same w ∙ place_up s w l f i v (λ g. missing_entry s w g f i ∷ version_end g ∷ []) none)
filled_one rules s t (Roll l i b) none by same =
    both_true (may_work rules b) (is_up t b) (first_true _ _ by) (same b ∙ roller_up s l i b none)
filled_one rules s t other none by same = refl

filled_work : (rules : Rules) (events : List Event) (s t : Cluster) → list_all (is_work_by rules) events ≡ true
    → replay s events ≡ Some t → list_all (is_filled_by (can_work (may_work rules) t)) events ≡ true
filled_work rules [] s t by is = refl
filled_work rules (event ∷ events) s t by is =
    let first = replay_first s event events (ap is_some is) in
    ap (λ x. x && list_all (is_filled_by (can_work (may_work rules) t)) events)
    (filled_one rules s t event first.0 (first_true _ _ by) (up_replay rules (event ∷ events) s t by is))
    ∙ filled_work rules events (after s event) t (second_true _ _ by) (sym first.1 ∙ is)

-- losses come first, by which nobody takes a place
abbrev is_loss : Event → Bool
is_loss (Lose b) = true
is_loss event = false

all_losses : (s : Cluster) (bookies : List ℕ) → list_all is_loss (flat_map (loss_of s) bookies) ≡ true
all_losses s [] = refl
all_losses s (b ∷ bookies) =
    elim (is_up s b) as (λ u. list_all is_loss (cond u (Lose b ∷ []) [] ++ flat_map (loss_of s) bookies) ≡ true)
    [ true ↦ all_losses s bookies | false ↦ all_losses s bookies ]

filled_behind : (rules : Rules) (losses work : List Event) (s t : Cluster) → list_all is_loss losses ≡ true
    → list_all (is_work_by rules) work ≡ true → replay s (losses ++ work) ≡ Some t
    → list_all (is_filled_by (can_work (may_work rules) t)) (losses ++ work) ≡ true
filled_behind rules [] work s t lost by is = filled_work rules work s t by is
filled_behind rules (Lose b ∷ losses) work s t lost by is =
    let first = replay_first s (Lose b) (losses ++ work) (ap is_some is) in
    filled_behind rules losses work (after s (Lose b)) t lost by (sym first.1 ∙ is)
filled_behind rules (other ∷ losses) work s t lost by is = cc

-- so in a plan that goes on by work after its losses
pub filled_by : (rules : Rules) (s t : Cluster) (is_lost : ℕ → Bool) (n : ℕ) (events : List Event)
    → GoesOnBy rules (losses_of s is_lost n) events → replay s events ≡ Some t
    → list_all (is_filled_by (can_work (may_work rules) t)) events ≡ true
filled_by rules s t is_lost n events order is =
    let losses : List Event = losses_of s is_lost n in
    subst (λ (es : List Event). list_all (is_filled_by (can_work (may_work rules) t)) es ≡ true) (sym order.1)
    (filled_behind rules losses order.0 s t (all_losses s (filter is_lost (range_with_len 0 n))) order.2
    (ap (replay s) (sym order.1) ∙ is))
