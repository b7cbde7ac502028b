-- What a step changed, line by line: each place with what was there and what is there now.
use Rattle.std.specs.Prelude.{ℕ, ◌+◌, ◌==◌, Bool, true, false, not, ◌&&◌, if◌then◌else◌, List, [], ◌∷◌, ◌++◌, map}
use Rattle.std.specs.Prelude.{Option, None, Some, is_none, slice_get, flat_map, codes}
use Rattle.std.specs.Option.{option_map_or}
use Rattle.std.specs.Fmt.{decimal}
use Rattle.reh_types.specs.declared.changes.Change.TheVariants as change
use Rattle.reh_types.specs.declared.locks.Lock.{Lock}
use Rattle.reh_types.specs.declared.names.LedgerState.{LedgerState}
use Rattle.reh_types.specs.declared.names.LedgerState.TheVariants.{Open, InRecovery, Closed}
use Rattle.reh_types.specs.declared.scalars.Scalar.{Scalar}
use Rattle.reh_types.specs.declared.scalars.Scalar.TheVariants.{Clock, Enabled}
use Rattle.reh_types.specs.declared.scalars.Scalars.{Scalars}
use Rattle.reh_types.specs.Sets.{Set, numbers}
use Rattle.reh_model.specs.Contents.{has, is_in_word}
use Rattle.reh_model.specs.Metadata.{Metadata, Fragment}
use Rattle.reh_model.specs.Cluster.{Cluster, Ledger, is_up, lost_tick}
use Rattle.reh_model.specs.Places.{Change}
use Rattle.reh_commands.specs.Texts.{spaced, name_of, names_in, registration, since_words, state_word, last_word, due_words}
use Rattle.reh_changes.specs.Ranges.{ranges_in, range_words}

-- Values, in a report's words; `-` stands for none

-- whether a bookie is registered, and since when it isn't, where there is a delay for lost bookies
abbrev pub registration_words : ℕ → Bool → Option ℕ → List (List ℕ)
registration_words delay up lost = registration up ∷ since_words delay lost

abbrev pub state_words : LedgerState → List (List ℕ)
state_words Open = state_word Open ∷ []
state_words InRecovery = state_word InRecovery ∷ []
state_words (Closed end) = state_word (Closed end) ∷ codes "last" ∷ last_word (Closed end) ∷ []

abbrev pub fragment_words : List (List ℕ) → Fragment → List (List ℕ)
fragment_words names fragment = codes "first" ∷ decimal fragment.first ∷ map (name_of names) fragment.ensemble

abbrev pub task_words : List (List ℕ) → Option (Set numbers) → List (List ℕ)
task_words names None = codes "-" ∷ []
task_words names (Some bookies) = names_in names bookies

abbrev pub lock_words : List (List ℕ) → Option Lock → List (List ℕ)
lock_words names None = codes "-" ∷ []
lock_words names (Some lock) = name_of names lock.owner ∷ due_words lock.due

abbrev pub enabled_word : Bool → List ℕ
enabled_word enabled = if enabled then codes "enabled" else codes "disabled"

-- Lines

-- a line of words, two spaces in
abbrev pub line : List (List ℕ) → List ℕ
line words = codes "  " ++ (spaced words ++ codes "\n")

-- a line: what has changed, what was there, and what is there now
abbrev pub change_line : List (List ℕ) → List (List ℕ) → List (List ℕ) → List ℕ
change_line what was now = line (what ++ (was ++ codes "->" ∷ now))

-- a bookie's registration
abbrev pub registration_line : Cluster → ℕ → Option ℕ → List ℕ
registration_line s bookie lost =
    change_line (codes "bookie" ∷ name_of s.names bookie ∷ []) (registration_words s.delay (is_none lost) lost)
    (registration_words s.delay (is_up s bookie) (lost_tick s bookie))

-- a ledger's version, and its state
abbrev pub version_line : ℕ → ℕ → ℕ → List ℕ
version_line id was now =
    if was == now then []
    else change_line (codes "ledger" ∷ decimal id ∷ codes "version" ∷ []) (decimal was ∷ []) (decimal now ∷ [])

abbrev pub is_same_state : LedgerState → LedgerState → Bool
is_same_state Open Open = true
is_same_state InRecovery InRecovery = true
is_same_state (Closed end) (Closed other) = end == other
is_same_state was now = false

abbrev pub state_line : ℕ → LedgerState → LedgerState → List ℕ
state_line id was now =
    if is_same_state was now then []
    else change_line (codes "ledger" ∷ decimal id ∷ codes "state" ∷ []) (state_words was) (state_words now)

-- a fragment of a ledger, by its number
abbrev pub fragment_name : ℕ → ℕ → List (List ℕ)
fragment_name id f = codes "ledger" ∷ decimal id ∷ codes "fragment" ∷ decimal f ∷ []

-- the members of its ensemble that changed, from the i-th on
abbrev pub member_lines : List (List ℕ) → ℕ → ℕ → ℕ → List ℕ → List ℕ → List ℕ
member_lines names id f i (was ∷ before) (now ∷ after) =
    (if was == now then []
    else change_line (fragment_name id f ++ codes "index" ∷ decimal i ∷ []) (name_of names was ∷ []) (name_of names now ∷ []))
    ++ member_lines names id f (i + 1) before after
member_lines names id f i before after = []

-- a ledger's fragments, from the f-th on
abbrev pub fragment_lines : List (List ℕ) → ℕ → ℕ → List Fragment → List Fragment → List ℕ
fragment_lines names id f [] [] = []
fragment_lines names id f (was ∷ before) [] =
    change_line (fragment_name id f) (fragment_words names was) (codes "-" ∷ [])
    ++ fragment_lines names id (f + 1) before []
fragment_lines names id f [] (now ∷ after) =
    change_line (fragment_name id f) (codes "-" ∷ []) (fragment_words names now)
    ++ fragment_lines names id (f + 1) [] after
fragment_lines names id f (was ∷ before) (now ∷ after) =
    member_lines names id f 0 was.ensemble now.ensemble ++ fragment_lines names id (f + 1) before after

-- its metadata
abbrev pub metadata_lines : List (List ℕ) → ℕ → Metadata → Metadata → List ℕ
metadata_lines names id was now =
    version_line id was.version now.version
    ++ (state_line id was.state now.state ++ fragment_lines names id 0 was.fragments now.fragments)

-- of 64 entries of a ledger, those that the bookie holds now and did not, and those that it held and doesn't now
abbrev pub is_gained : Cluster → ℕ → ℕ → ℕ → ℕ → ℕ → Bool
is_gained s bookie ledger number bits e = is_in_word number bits e && has s.parts.held bookie ledger e

abbrev pub is_gone : Cluster → ℕ → ℕ → ℕ → ℕ → ℕ → Bool
is_gone s bookie ledger number bits e = is_in_word number bits e && not (has s.parts.held bookie ledger e)

-- the ranges of those, and of these
abbrev pub turned_words : Cluster → ℕ → ℕ → ℕ → ℕ → List (List ℕ)
turned_words s bookie ledger number bits =
    range_words (codes "+") (ranges_in number (is_gained s bookie ledger number bits))
    ++ range_words (codes "-") (ranges_in number (is_gone s bookie ledger number bits))

abbrev pub word_line : Cluster → ℕ → ℕ → ℕ → ℕ → List ℕ
word_line s bookie ledger number bits =
    line (codes "bookie" ∷ name_of s.names bookie ∷ codes "ledger" ∷ decimal ledger
    ∷ turned_words s bookie ledger number bits)

-- a part that is a single value
abbrev pub scalar_line : Scalars → Scalar → List ℕ
scalar_line now (Clock was) = change_line (codes "clock" ∷ []) (decimal was ∷ []) (decimal now.clock ∷ [])
scalar_line now (Enabled was) =
    change_line (codes "autorecovery" ∷ []) (enabled_word was ∷ []) (enabled_word now.enabled ∷ [])

-- the task of a ledger, and its lock
abbrev pub task_line : List (List ℕ) → Option (Set numbers) → Ledger → List ℕ
task_line names was g =
    change_line (codes "task" ∷ decimal g.id ∷ []) (task_words names was) (task_words names g.task)

abbrev pub lock_line : List (List ℕ) → Option Lock → Ledger → List ℕ
lock_line names was g =
    change_line (codes "lock" ∷ decimal g.id ∷ []) (lock_words names was) (lock_words names g.lock)

-- what is printed of the ledger at a place of the picture
abbrev pub of_ledger : Cluster → ℕ → (Ledger → List ℕ) → List ℕ
of_ledger s place text = option_map_or text (slice_get s.parts.ledgers place) []

-- the lines of a change that holds what was at its place, where the cluster is s now
abbrev pub lines_of : Cluster → Change → List ℕ
lines_of s (change.Registration bookie lost) = registration_line s bookie lost
lines_of s (change.Metadata place metadata) =
    of_ledger s place (λ g. metadata_lines s.names g.id metadata g.metadata)
lines_of s (change.Task place task) = of_ledger s place (task_line s.names task)
lines_of s (change.Lock place lock) = of_ledger s place (lock_line s.names lock)
lines_of s (change.Word bookie ledger number bits) = word_line s bookie ledger number bits
lines_of s (change.Scalar scalar) = scalar_line s.parts.scalars scalar

-- those of all changes of a record, in their order
abbrev pub all_lines : Cluster → List Change → List ℕ
all_lines s changes = flat_map (lines_of s) changes
