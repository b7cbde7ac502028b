-- A ledger that isn't there at first never is, and what names it is refused.
use Rattle.std.proofs.Common.{◌≡◌, ◌∙◌, ◌+◌, ◌==◌, ℕ, Bool, true, false, cond, List, [], ◌∷◌, map, Option, None, Some, refl, sym, ap, is_some, is_none}
use Rattle.std.specs.List.{find}
use Rattle.std.specs.Option.{option_and_then}
use Rattle.reh_types.specs.declared.moves.Event.{Event}
use Rattle.reh_types.specs.declared.moves.Event.TheVariants.{Lose, Join, Audit, Acquire, Release, Finish, Expire, Grace, Tick, Roll, Fence, Seal, Copy, Swap, Disable, Enable}
use Rattle.reh_types.specs.declared.names.Aim.{Aim}
use Rattle.reh_types.specs.declared.refusals.Refusal.{Refusal}
use Rattle.reh_model.specs.Cluster.{Cluster, Ledger, change_ledger, ledger_at}
use Rattle.reh_model.specs.Audit.{audited_ledger}
use Rattle.reh_model.specs.Checks.{first_reason}
use Rattle.reh_model.specs.Refusals.{with_ledger, no_bookie, disabled}
use Rattle.reh_model.specs.Scan.{aim_refusal}
use Rattle.reh_model.specs.Session.{replay, unless}
use Rattle.reh_model.specs.Step.{after, refusal_of, locked_ledger, unlocked_ledger, finished_ledger, expired_ledger, graced_ledger, rolled_ledger, fenced_ledger, sealed_ledger, swapped_ledger}
use Rattle.reh_model.proofs.LedgerLaws.{KeepsId, KeepsId-changed_ledger, changed_ledger, ids-map}
use Rattle.reh_model.proofs.WellFormedLaws.{KeepsId-audited_ledger, KeepsId-expired_ledger}
use Rattle.reh_lint.specs.Ledgers.{event_ledger, ids_of, unless_there}

-- No event changes the ids

changed : (s : Cluster) (l : ℕ) (change : Ledger → Ledger) → KeepsId change → ids_of (change_ledger s l change) ≡ ids_of s
changed s l change keeps = ids-map (changed_ledger l change) (KeepsId-changed_ledger l change keeps) s.parts.ledgers

same_ids : (s : Cluster) (event : Event) → ids_of (after s event) ≡ ids_of s
same_ids s (Lose b) = refl
same_ids s (Join b) = refl
same_ids s Audit = ids-map (audited_ledger s) (KeepsId-audited_ledger s) s.parts.ledgers
same_ids s (Acquire w l) = changed s l (locked_ledger w) (λ g. refl)
same_ids s (Release w l) = changed s l unlocked_ledger (λ g. refl)
same_ids s (Finish w l) = changed s l finished_ledger (λ g. refl)
same_ids s (Expire w) = ids-map (expired_ledger w) (KeepsId-expired_ledger w) s.parts.ledgers
same_ids s (Grace w l) = changed s l (graced_ledger (s.parts.scalars.clock + s.grace)) (λ g. refl)
same_ids s (Tick n) = refl
same_ids s (Roll l i b) = changed s l (rolled_ledger s i b) (λ g. refl)
same_ids s (Fence w l) = changed s l fenced_ledger (λ g. refl)
same_ids s (Seal w l) = changed s l (sealed_ledger s) (λ g. refl)
same_ids s (Copy w l f i v) = refl
same_ids s (Swap w l f i v) = changed s l (swapped_ledger f i w) (λ g. refl)
same_ids s Disable = refl
same_ids s Enable = refl

accepted : (r : Option Refusal) (o : Option Cluster) (t : Cluster) → unless r o ≡ Some t → o ≡ Some t
accepted None o t e = e
accepted (Some r) o t e = absurd (cc)

pub reached : (events : List Event) (s t : Cluster) → replay s events ≡ Some t → ids_of t ≡ ids_of s
reached [] s t e = let same : s ≡ t = cc in ap ids_of (sym same)
reached (event ∷ events) s t e =
    reached events (after s event) t (accepted (refusal_of s event) (replay (after s event) events) t e) ∙ same_ids s event

-- So what isn't there at first isn't there later

by_ids : (gs : List Ledger) (l : ℕ) → is_none (find (λ g. g.id == l) gs) ≡ is_none (find (λ n. n == l) (map (λ g. g.id) gs))
by_ids [] l = refl
by_ids (g ∷ gs) l =
    elim (g.id == l) as (λ b. is_none (cond b (Some g) (find (λ g. g.id == l) gs)) ≡ is_none (cond b (Some g.id) (find (λ n. n == l) (map (λ g. g.id) gs)))) [
      | true ↦ refl
      | false ↦ by_ids gs l
    ]

is_there : (b : Bool) (l : ℕ) → is_some (cond b (Some l) None) ≡ true → b ≡ true
is_there true l e = refl
is_there false l e = absurd (cc)

missing : (s t : Cluster) → ids_of t ≡ ids_of s → (l : ℕ) → is_some (unless_there s l) ≡ true → is_none (ledger_at t l) ≡ true
missing s t same l e =
    by_ids t.parts.ledgers l ∙ ap (λ (ids : List ℕ). is_none (find (λ n. n == l) ids)) same
    ∙ sym (by_ids s.parts.ledgers l)
    ∙ is_there (is_none (ledger_at s l)) l e

-- And what names it is refused

refuses : (o : Option Ledger) (checks : Ledger → List (Option Refusal)) → is_none o ≡ true → is_some (with_ledger o checks) ≡ true
refuses None checks e = refl
refuses (Some g) checks e = absurd (cc)

second : (a b : Option Refusal) → is_some b ≡ true → is_some (first_reason (a ∷ b ∷ [])) ≡ true
second (Some r) b e = refl
second None (Some r) e = refl
second None None e = absurd (cc)

third : (a b c : Option Refusal) → is_some c ≡ true → is_some (first_reason (a ∷ b ∷ c ∷ [])) ≡ true
third (Some r) b c e = refl
third None b c e = second b c e

pub event_refused : (s t : Cluster) → ids_of t ≡ ids_of s → (event : Event)
    → is_some (option_and_then (unless_there s) (event_ledger event)) ≡ true → is_some (refusal_of t event) ≡ true
event_refused s t same (Acquire w l) e =
    third (disabled t) (no_bookie t w) _ (refuses (ledger_at t l) _ (missing s t same l e))
event_refused s t same (Release w l) e = second (no_bookie t w) _ (refuses (ledger_at t l) _ (missing s t same l e))
event_refused s t same (Finish w l) e = second (no_bookie t w) _ (refuses (ledger_at t l) _ (missing s t same l e))
event_refused s t same (Grace w l) e = second (no_bookie t w) _ (refuses (ledger_at t l) _ (missing s t same l e))
event_refused s t same (Roll l i b) e = second (no_bookie t b) _ (refuses (ledger_at t l) _ (missing s t same l e))
event_refused s t same (Fence w l) e = second (no_bookie t w) _ (refuses (ledger_at t l) _ (missing s t same l e))
event_refused s t same (Seal w l) e = second (no_bookie t w) _ (refuses (ledger_at t l) _ (missing s t same l e))
event_refused s t same (Copy w l f i v) e = second (no_bookie t w) _ (refuses (ledger_at t l) _ (missing s t same l e))
event_refused s t same (Swap w l f i v) e = second (no_bookie t w) _ (refuses (ledger_at t l) _ (missing s t same l e))
event_refused s t same event e = absurd (cc)

pub scan_refused : (s t : Cluster) → ids_of t ≡ ids_of s → (aim : Aim) → is_some (unless_there s aim.ledger) ≡ true
    → is_some (aim_refusal t aim) ≡ true
scan_refused s t same aim e =
    second (no_bookie t aim.worker) _ (refuses (ledger_at t aim.ledger) _ (missing s t same aim.ledger e))
