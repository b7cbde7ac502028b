-- What a step changed, as JSON: an object for each line that `--changes` prints, in the same order. There the line of a
-- state also tells the last entry id; here the last entry id has an object of its own, after that of the state.
use Rattle.std.specs.Prelude.{ℕ, ◌+◌, ◌==◌, ◌||◌, Bool, if◌then◌else◌, List, [], ◌∷◌, ◌++◌, map, Option, is_none, slice_get, flat_map, codes}
use Rattle.std.specs.Option.{option_map_or}
use Rattle.json.specs.Json.{Json, null, boolean, string, object, Members, no_members, member}
use Rattle.json.specs.Token.{Token, begin_object}
use Rattle.reh_types.specs.declared.changes.Change.TheVariants as change
use Rattle.reh_types.specs.declared.locks.Lock.{Lock}
use Rattle.reh_types.specs.declared.names.LedgerState.{LedgerState}
use Rattle.reh_types.specs.declared.scalars.Scalar.{Scalar}
use Rattle.reh_types.specs.declared.scalars.Scalar.TheVariants.{Clock, Enabled}
use Rattle.reh_types.specs.declared.scalars.Scalars.{Scalars}
use Rattle.reh_types.specs.Sets.{Set, numbers}
use Rattle.reh_model.specs.Metadata.{Metadata, Fragment}
use Rattle.reh_model.specs.Cluster.{Cluster, Ledger, is_up, lost_tick}
use Rattle.reh_model.specs.Places.{Change}
use Rattle.reh_changes.specs.Changes.{is_same_state, is_gained, is_gone}
use Rattle.reh_changes.specs.Ranges.{ranges_in}
use Rattle.reh_answer.specs.Objects.{list_json, member_tokens, number_json}
use Rattle.reh_run_json.specs.Values.{or_null, name_json, registration_json, state_json, is_closed, last_json, ensemble_json, task_json, lock_json, range_json}

-- a change: what has changed, then what it is of, and what was there and is there now
abbrev pub changed : List ℕ → (Members → Members) → Json → Json → Json
changed what of was now =
    object (member (codes "what") (string what) (of (member (codes "was") was (member (codes "now") now no_members))))

abbrev pub of_ledger : ℕ → Members → Members
of_ledger id rest = member (codes "ledger") (number_json id) rest

abbrev pub of_fragment : ℕ → ℕ → Members → Members
of_fragment id f rest = of_ledger id (member (codes "fragment") (number_json f) rest)

-- a bookie's registration, where it was lost at that tick or was registered
abbrev pub registration_change : Cluster → ℕ → Option ℕ → Json
registration_change s bookie lost =
    changed (codes "registration") (member (codes "bookie") (name_json s.names bookie))
    (registration_json (is_none lost) lost) (registration_json (is_up s bookie) (lost_tick s bookie))

-- a ledger's version, its state, and the last entry id
abbrev pub version_change : ℕ → ℕ → ℕ → Json
version_change id was now = changed (codes "version") (of_ledger id) (number_json was) (number_json now)

abbrev pub version_changes : ℕ → ℕ → ℕ → List Json
version_changes id was now = if was == now then [] else version_change id was now ∷ []

abbrev pub state_change : ℕ → LedgerState → LedgerState → Json
state_change id was now = changed (codes "state") (of_ledger id) (state_json was) (state_json now)

abbrev pub last_change : ℕ → LedgerState → LedgerState → Json
last_change id was now = changed (codes "lastEntryId") (of_ledger id) (last_json was) (last_json now)

-- the change of the last entry id, where the ledger was or is CLOSED
abbrev pub last_changes : ℕ → LedgerState → LedgerState → List Json
last_changes id was now = if is_closed was || is_closed now then last_change id was now ∷ [] else []

abbrev pub state_changes : ℕ → LedgerState → LedgerState → List Json
state_changes id was now =
    if is_same_state was now then [] else state_change id was now ∷ last_changes id was now

abbrev pub member_changes : List (List ℕ) → ℕ → ℕ → ℕ → List ℕ → List ℕ → List Json
member_changes names id f i (was ∷ before) (now ∷ after) =
    (if was == now then []
    else changed (codes "member") (λ rest. of_fragment id f (member (codes "index") (number_json i) rest))
    (name_json names was) (name_json names now) ∷ [])
    ++ member_changes names id f (i + 1) before after
member_changes names id f i before after = []

abbrev pub contents_json : List (List ℕ) → ℕ → List ℕ → Json
contents_json names first ensemble =
    object (
    member (codes "firstEntry") (number_json first) (member (codes "ensemble") (ensemble_json names ensemble) no_members)
    )

abbrev pub fragment_json : List (List ℕ) → Fragment → Json
fragment_json names fragment = contents_json names fragment.first fragment.ensemble

abbrev pub fragment_changes : List (List ℕ) → ℕ → ℕ → List Fragment → List Fragment → List Json
fragment_changes names id f [] [] = []
fragment_changes names id f (was ∷ before) [] =
    changed (codes "fragment") (of_fragment id f) (fragment_json names was) null
    ∷ fragment_changes names id (f + 1) before []
fragment_changes names id f [] (now ∷ after) =
    changed (codes "fragment") (of_fragment id f) null (fragment_json names now)
    ∷ fragment_changes names id (f + 1) [] after
fragment_changes names id f (was ∷ before) (now ∷ after) =
    member_changes names id f 0 was.ensemble now.ensemble ++ fragment_changes names id (f + 1) before after

abbrev pub metadata_changes : List (List ℕ) → ℕ → Metadata → Metadata → List Json
metadata_changes names id was now =
    version_changes id was.version now.version
    ++ (state_changes id was.state now.state ++ fragment_changes names id 0 was.fragments now.fragments)

-- entries of a ledger that the bookie holds now and did not, and that it held and doesn't now, as ranges
abbrev pub gained_json : Cluster → ℕ → ℕ → ℕ → ℕ → Json
gained_json s bookie ledger number bits =
    list_json (map range_json (ranges_in number (is_gained s bookie ledger number bits)))

abbrev pub gone_json : Cluster → ℕ → ℕ → ℕ → ℕ → Json
gone_json s bookie ledger number bits =
    list_json (map range_json (ranges_in number (is_gone s bookie ledger number bits)))

abbrev pub entries_change : List (List ℕ) → ℕ → ℕ → Json → Json → Json
entries_change names bookie ledger gained gone =
    object (
    member (codes "what") (string (codes "entries"))
    (member (codes "bookie") (name_json names bookie)
    (member (codes "ledger") (number_json ledger) (member (codes "gained") gained (member (codes "gone") gone no_members))))
    )

-- the tokens before the ranges
abbrev pub entries_begun : List (List ℕ) → ℕ → ℕ → List Token
entries_begun names bookie ledger =
    begin_object ∷ (member_tokens (codes "what") (string (codes "entries"))
    ++ (member_tokens (codes "bookie") (name_json names bookie) ++ member_tokens (codes "ledger") (number_json ledger)))

abbrev pub clock_change : ℕ → ℕ → Json
clock_change was now = changed (codes "clock") (λ rest. rest) (number_json was) (number_json now)

abbrev pub enabled_change : Bool → Bool → Json
enabled_change was now = changed (codes "autorecovery") (λ rest. rest) (boolean was) (boolean now)

abbrev pub scalar_change : Scalars → Scalar → Json
scalar_change now (Clock was) = clock_change was now.clock
scalar_change now (Enabled was) = enabled_change was now.enabled

abbrev pub task_change : List (List ℕ) → ℕ → Option (Set numbers) → Option (Set numbers) → Json
task_change names id was now =
    changed (codes "task") (of_ledger id) (or_null (task_json names) was) (or_null (task_json names) now)

abbrev pub lock_change : List (List ℕ) → ℕ → Option Lock → Option Lock → Json
lock_change names id was now =
    changed (codes "lock") (of_ledger id) (or_null (lock_json names) was) (or_null (lock_json names) now)

abbrev pub of_place : Cluster → ℕ → (Ledger → List Json) → List Json
of_place s place json = option_map_or json (slice_get s.parts.ledgers place) []

-- a change that holds what was at its place, where the cluster is s now
abbrev pub change_objects : Cluster → Change → List Json
change_objects s (change.Registration bookie lost) = registration_change s bookie lost ∷ []
change_objects s (change.Metadata place metadata) =
    of_place s place (λ g. metadata_changes s.names g.id metadata g.metadata)
change_objects s (change.Task place task) = of_place s place (λ g. task_change s.names g.id task g.task ∷ [])
change_objects s (change.Lock place lock) = of_place s place (λ g. lock_change s.names g.id lock g.lock ∷ [])
change_objects s (change.Word bookie ledger number bits) =
    entries_change s.names bookie ledger (gained_json s bookie ledger number bits) (gone_json s bookie ledger number bits) ∷ []
change_objects s (change.Scalar scalar) = scalar_change s.parts.scalars scalar ∷ []

abbrev pub changes_json : Cluster → List Change → Json
changes_json s changes = list_json (flat_map (change_objects s) changes)
