-- Why something is left for a ledger in the end, and how a comment says it.
use Rattle.std.specs.Prelude.{◌≡◌, ◌≢◌, ℕ, Bool, true, false, not, ◌&&◌, ◌||◌, IsTrue, List, [], ◌∷◌, ◌++◌, codes, nat_lt, slice_get, if◌then◌else◌}
use Rattle.std.specs.Prelude.{Option, None, Some, is_none, is_some}
use Rattle.std.specs.Fmt.{decimal}
use Rattle.std.specs.Option.{option_map_or}
use Rattle.reh_types.specs.Texts.{refusal_text}
use Rattle.reh_types.specs.declared.moves.Event.TheVariants.{Roll as RollEvent}
use Rattle.reh_types.specs.declared.refusals.Refusal.{Refusal}
use Rattle.reh_types.specs.declared.refusals.Refusal.TheVariants.{VersionEnd}
use Rattle.reh_model.specs.Audit.{is_needed, is_under}
use Rattle.reh_model.specs.Checks.{first_reason}
use Rattle.reh_model.specs.Cluster.{Cluster, Ledger, is_up}
use Rattle.reh_model.specs.Metadata.{Fragment, is_in_recovery, is_open, last_fragment, stop_of}
use Rattle.reh_model.specs.Refusals.{member_up, no_index, no_source, target_down, target_is_member, version_end}
use Rattle.reh_model.specs.Step.{refusal_of}
use Rattle.reh_plan.specs.Ends.{has_writer, seal_refusal}
use Rattle.reh_plan.specs.Workers.{Rules, may_work}
use Rattle.reh_plan.specs.declared.reasons.Reason.{Reason}
use Rattle.reh_plan.specs.declared.reasons.Reason.TheVariants.{NoWorker, Place, Roll, Seal, NoRoom}

-- When a reason is one

-- a member of the fragment isn't registered, and each bookie that may work is itself not registered, or a member
pub record LacksWorker (rules : Rules) (s : Cluster) (fragment : Fragment) : Type 0 where
  pub under : is_under s fragment ≡ true
  pub none : (b : ℕ) → IsTrue (may_work rules b) → first_reason (target_down s b ∷ target_is_member fragment b ∷ []) ≢ None

-- the same of the fragment of that number
abbrev pub LacksWorkerAt : Rules → Cluster → Ledger → ℕ → Type 0
LacksWorkerAt rules s g f =
    (fragment : Fragment) × (slice_get g.metadata.fragments f ≡ Some fragment) × LacksWorker rules s fragment

-- whether the fragment has a member at that index, and that isn't registered
abbrev pub is_missing_at : Cluster → Ledger → ℕ → ℕ → Bool
is_missing_at s g f i =
    nat_lt i g.metadata.size
    && option_map_or (λ fragment. option_map_or (λ member. not (is_up s member)) (slice_get fragment.ensemble i) false)
    (slice_get g.metadata.fragments f) false

-- why no bookie can take that place: some entry can't be copied, or there is no next version
abbrev pub place_refusal : Cluster → Ledger → ℕ → ℕ → Option Refusal
place_refusal s g f i = first_reason (no_source s g f i ∷ version_end g ∷ [])

-- why no bookie can take a missing member's place, in a fragment whose entries are known
abbrev pub unfilled_refusal : Cluster → Ledger → ℕ → ℕ → Option Refusal
unfilled_refusal s g f i =
    if is_missing_at s g f i && is_some (stop_of g.metadata f) then place_refusal s g f i else None

-- whether the ledger isn't closed, and its last ensemble misses a member
abbrev pub is_unsettled : Cluster → Ledger → Bool
is_unsettled s g = (is_open g.metadata.state || is_in_recovery g.metadata.state) && is_needed s g

-- why such a ledger can't be closed, where it has no writer that changes its ensemble
abbrev pub unsealed_refusal : Rules → Cluster → Ledger → Option Refusal
unsealed_refusal rules s g = if not (has_writer rules g) && is_unsettled s g then seal_refusal s g else None

-- why the ledger's writer can't put the bookie at that index of its ensemble
abbrev pub roll_refusal : Cluster → Ledger → ℕ → ℕ → Option Refusal
roll_refusal s g i b = refusal_of s (RollEvent g.id i b)

-- whether the bookie may work and can come to that index of the last ensemble, in the place of a missing member
abbrev pub may_come : Rules → Cluster → Ledger → ℕ → ℕ → Bool
may_come rules s g i b =
    may_work rules b
    && is_none (first_reason (no_index g i ∷ member_up s (last_fragment g.metadata) i ∷ target_down s b
    ∷ target_is_member (last_fragment g.metadata) b ∷ []))

-- why the ledger's writer, if it has one that changes its ensemble, can't put such a bookie there
abbrev pub unrolled_refusal : Rules → Cluster → Ledger → ℕ → ℕ → Option Refusal
unrolled_refusal rules s g i b = if has_writer rules g && may_come rules s g i b then roll_refusal s g i b else None

-- nothing is refused of the ledger that a further bookie wouldn't mend
pub record IsUnrefused (rules : Rules) (s : Cluster) (g : Ledger) : Type 0 where
  pub places : (f i : ℕ) → unfilled_refusal s g f i ≡ None
  pub seal : unsealed_refusal rules s g ≡ None
  pub roll : (i b : ℕ) → unrolled_refusal rules s g i b ≡ None

-- nor does a fragment lack a bookie: only room can be missing
pub record LacksRoom (rules : Rules) (s : Cluster) (g : Ledger) : Type 0 where
  pub workers : (f : ℕ) → LacksWorkerAt rules s g f → ⊥
  pub unrefused : IsUnrefused rules s g

-- that is why something is left for the ledger in s, the last state: that a bookie is missing, only where nothing is refused;
-- and that there is no room, only where the script says that it is full and nothing else is so
abbrev pub IsReason : Rules → Bool → Cluster → Ledger → Reason → Type 0
IsReason rules full s g (NoWorker f) = LacksWorkerAt rules s g f × IsUnrefused rules s g
IsReason rules full s g (Place f i refusal) = unfilled_refusal s g f i ≡ Some refusal
IsReason rules full s g (Roll refusal) = (i : ℕ) × (b : ℕ) × (unrolled_refusal rules s g i b ≡ Some refusal)
IsReason rules full s g (Seal refusal) = unsealed_refusal rules s g ≡ Some refusal
IsReason rules full s g NoRoom = (full ≡ true) × LacksRoom rules s g

-- Texts

-- the verb of the command that is refused so, of those by which a place is filled
abbrev pub place_verb : Refusal → List ℕ
place_verb VersionEnd = codes "swap"
place_verb other = codes "copy"

abbrev pub reason_text : Reason → List ℕ
reason_text (NoWorker f) = codes "fragment " ++ (decimal f ++ codes ": no worker")
reason_text (Place f i refusal) =
    codes "fragment " ++ (decimal f ++ (codes " index " ++ (decimal i ++ (codes ": " ++ (place_verb refusal
    ++ (codes " refused " ++ refusal_text refusal))))))
reason_text (Roll refusal) = codes "roll refused " ++ refusal_text refusal
reason_text (Seal refusal) = codes "seal refused " ++ refusal_text refusal
reason_text NoRoom = codes "no room in the script"

-- the same without the place and the refusal
abbrev pub kind_of : Reason → List ℕ
kind_of (NoWorker f) = codes "no worker"
kind_of (Place f i VersionEnd) = codes "swap refused"
kind_of (Place f i other) = codes "copy refused"
kind_of (Roll refusal) = codes "roll refused"
kind_of (Seal refusal) = codes "seal refused"
kind_of NoRoom = codes "no room in the script"

-- all of these
abbrev pub kinds : List (List ℕ)
kinds =
    codes "copy refused" ∷ codes "swap refused" ∷ codes "seal refused" ∷ codes "roll refused" ∷ codes "no worker"
    ∷ codes "no room in the script" ∷ []
