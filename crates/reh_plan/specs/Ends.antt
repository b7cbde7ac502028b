-- What a plan must not leave, unless its script says that it is full.
use Rattle.std.specs.Prelude.{◌≡◌, ◌≢◌, ℕ, ◌+◌, ◌≤◌, Bool, true, false, ◌&&◌, IsTrue, IsFalse, All, List, [], ◌∷◌, ◌++◌, length, map, is_none, is_some, slice_get, bytes_eq, codes}
use Rattle.std.specs.Prelude.{Option, None, Some}
use Rattle.std.specs.List.{list_all, list_any}
use Rattle.std.specs.Option.{option_map_or}
use Rattle.reh_types.specs.declared.limits.TheConstants.{MAX_SCRIPT_BYTES}
use Rattle.reh_types.specs.declared.moves.Event.TheVariants.{Roll}
use Rattle.reh_types.specs.declared.names.LedgerState.{LedgerState}
use Rattle.reh_types.specs.declared.names.LedgerState.TheVariants.{Open, InRecovery, Closed}
use Rattle.reh_types.specs.declared.refusals.Refusal.{Refusal}
use Rattle.reh_types.specs.declared.refusals.Refusal.TheVariants.{NotRecovering}
use Rattle.reh_model.specs.Audit.{first_under}
use Rattle.reh_model.specs.Checks.{first_reason}
use Rattle.reh_model.specs.Cluster.{Cluster, Ledger}
use Rattle.reh_model.specs.Metadata.{is_in_recovery, is_open, last_fragment}
use Rattle.reh_model.specs.Refusals.{no_place, no_source, not_needed, target_down, target_is_member}
use Rattle.reh_model.specs.Refusals.{too_few, undecided, version_end}
use Rattle.reh_model.specs.Step.{fenced_ledger, refusal_of}
use Rattle.reh_commands.specs.Answers.{asked}
use Rattle.reh_lines.specs.Lines.{lines_of}
use Rattle.reh_plan.specs.Workers.{Rules, may_work}

-- why the bookie can't take a place of the ledger, if it had the ledger's lock: it can't take that place, some entry can't be
-- copied, or there is no next version
abbrev pub fill_refusal : Cluster → ℕ → Ledger → ℕ → ℕ → Option Refusal
fill_refusal s b g f i = first_reason (no_place s b g f i ∷ no_source s g f i ∷ version_end g ∷ [])

-- no bookie that may work can take the place at that index of the fragment
abbrev pub IsFilled : (ℕ → Bool) → Cluster → Ledger → ℕ → ℕ → Type 0
IsFilled may s g f i = (b : ℕ) → IsTrue (may b) → fill_refusal s b g f i ≢ None

-- nor any place of the ledger
abbrev pub AllFilled : (ℕ → Bool) → Cluster → Ledger → Type 0
AllFilled may s g = (f i : ℕ) → IsFilled may s g f i

-- nor any place of any ledger
abbrev pub IsComplete : (ℕ → Bool) → Cluster → Type 0
IsComplete may s = All (AllFilled may s) s.parts.ledgers

-- why a ledger of that state can't be fenced, if it is open, and then closed: it has no next version for both, or it is
-- closed already
abbrev pub not_closable : LedgerState → Ledger → Option Refusal
not_closable Open g = first_reason (version_end g ∷ version_end (fenced_ledger g) ∷ [])
not_closable InRecovery g = version_end g
not_closable (Closed end) g = Some NotRecovering

-- why the ledger can't be closed, once it is fenced: too few members answer, or it is closed already or has no next version
abbrev pub seal_refusal : Cluster → Ledger → Option Refusal
seal_refusal s g = first_reason (too_few s g ∷ undecided s g ∷ not_closable g.metadata.state g ∷ [])

-- why the bookie can't recover the ledger, if it had the ledger's lock and the grace were over: it can't take a place of the
-- last ensemble, or that misses no member, or the ledger can't be fenced, if it is open, and then closed
abbrev pub recovery_refusal : Cluster → ℕ → Ledger → Option Refusal
recovery_refusal s b g =
    first_reason (target_down s b ∷ target_is_member (last_fragment g.metadata) b ∷ not_needed s g ∷ seal_refusal s g ∷ [])

-- no bookie that may work can recover the ledger
abbrev pub IsUnrecoverable : (ℕ → Bool) → Cluster → Ledger → Type 0
IsUnrecoverable may s g = (b : ℕ) → IsTrue (may b) → recovery_refusal s b g ≢ None

-- whether a ledger has a writer that changes its ensemble itself: it is open, and writers do so
abbrev pub has_writer : Rules → Ledger → Bool
has_writer rules g = rules.writers_roll && is_open g.metadata.state

-- the ledger's writer can put no bookie that may work in the place of a missing member
abbrev pub IsRolled : (ℕ → Bool) → Cluster → Ledger → Type 0
IsRolled may s g = (b i : ℕ) → IsTrue (may b) → refusal_of s (Roll g.id i b) ≢ None

-- nothing is left to do for the ledger's last ensemble: by its writer, if it has one, or else by a recovery
pub record IsSettled (rules : Rules) (s : Cluster) (g : Ledger) : Type 0 where
  pub rolled : IsTrue (has_writer rules g) → IsRolled (may_work rules) s g
  pub recovered : IsFalse (has_writer rules g) → IsUnrecoverable (may_work rules) s g

-- no task is locked
abbrev pub IsUnlocked : Cluster → Type 0
IsUnlocked s = list_any (λ g. is_some g.lock) s.parts.ledgers ≡ false

-- whether the ledger has a task, though each member of its ensembles is registered
abbrev pub is_needless : Cluster → Ledger → Bool
is_needless s g = is_some g.task && is_none (first_under s g)

-- no task is needless
abbrev pub IsNeeded : Cluster → Type 0
IsNeeded s = list_any (is_needless s) s.parts.ledgers ≡ false

-- whether each ledger is in recovery, in picture order
abbrev pub recovering : Cluster → List Bool
recovering s = map (λ g. is_in_recovery g.metadata.state) s.parts.ledgers

-- the flag at that place, if it is there and set
abbrev pub flag_at : List Bool → ℕ → Bool
flag_at flags k = option_map_or (λ flag. flag) (slice_get flags k) false

-- each flag that is set is set in the others
abbrev pub AreAmong : List Bool → List Bool → Type 0
AreAmong flags others = (k : ℕ) → IsTrue (flag_at flags k) → IsTrue (flag_at others k)

-- no ledger is in recovery in t that isn't in s, at the same place of the picture
abbrev pub IsHarmless : Cluster → Cluster → Type 0
IsHarmless s t = AreAmong (recovering t) (recovering s)

-- the comment that a script is full, and that something is left that could be done
abbrev pub full_line : List ℕ
full_line = codes "# the script is full: plan again after it"

-- whether one of these lines says so
abbrev pub says_full : List (List ℕ) → Bool
says_full lines = list_any (bytes_eq full_line) lines

-- after these lines a script has no room for a further command, beside 64 KiB of comments: for each command 1,024 bytes are to
-- be left
pub record HasNoRoom (lines : List (List ℕ)) : Type 0 where
  pub text : List ℕ
  pub says : lines_of text ≡ lines
  pub many : MAX_SCRIPT_BYTES ≤ length text + 66560

-- with the bookies of these names, one of these lines says that the script is full, and the commands before it leave no room
pub record IsFull (names : List (List ℕ)) (lines : List (List ℕ)) : Type 0 where
  pub before : List (List ℕ)
  pub after : List (List ℕ)
  pub is : lines ≡ before ++ full_line ∷ after
  pub commands : list_all (λ line. is_some (asked names line)) before ≡ true
  pub full : HasNoRoom before
  pub once : says_full after ≡ false

-- nothing is left that the bookies that may work could do
pub record IsDone (rules : Rules) (s : Cluster) : Type 0 where
  pub complete : IsComplete (may_work rules) s
  pub settled : All (IsSettled rules s) s.parts.ledgers
  pub unlocked : IsUnlocked s
  pub needed : IsNeeded s

-- in t, the last state, nothing of that is left, unless the script says that it is full
abbrev pub Ends : Rules → Cluster → List (List ℕ) → Type 0
Ends rules t lines = IsFalse (says_full lines) → IsDone rules t
