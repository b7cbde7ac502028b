-- The cluster: who is registered, the ledgers, which entries each bookie holds, tasks, locks, the clock, and whether
-- AutoRecovery is enabled.
use Rattle.std.specs.Prelude.{ℕ, zero, suc, Bool, false, ◌&&◌, ◌==◌, if◌then◌else◌, List, [], ◌∷◌, map, Option}
use Rattle.std.specs.Prelude.{is_none, unwrap_or, position, slice_get}
use Rattle.std.specs.List.{find, list_any}
use Rattle.std.specs.Option.{option_and_then, option_map_or}
use Rattle.std.specs.Str.{bytes_eq}
use Rattle.reh_types.specs.declared.locks.Lock.{Lock}
use Rattle.reh_types.specs.declared.scalars.Scalars.{Scalars}
use Rattle.reh_types.specs.Scalars.{first_scalars}
use Rattle.reh_types.specs.Sets as set
use Rattle.reh_types.specs.Sets.{Set, numbers}
use Rattle.reh_model.specs.Contents.{Contents, has}
use Rattle.reh_model.specs.Metadata.{Metadata, Fragment, writes, stop_of, stripe_of}

-- a ledger: its metadata, how many words of 64 entries it has, the bookies that its task is to replace, if it has
-- one, and the task's lock, if it is locked
pub record Ledger : Type 0 where
  pub id : ℕ
  pub metadata : Metadata
  pub words : ℕ
  pub task : Option (Set numbers)
  pub lock : Option Lock

-- what events change; ledgers go by their ids, in the picture's order
pub record Parts : Type 0 where
  -- the bookies' registrations, in the order of their names: the tick at which one was lost, none while it is
  -- registered
  pub lost_at : List (Option ℕ)
  pub ledgers : List Ledger
  -- what the bookies hold, registered or not
  pub held : Contents
  pub scalars : Scalars

-- and what no event changes; bookies go by their place in the list of names
pub record Cluster : Type 0 where
  pub names : List (List ℕ)
  pub grace : ℕ
  -- for how many ticks after a loss an audit waits
  pub delay : ℕ
  pub parts : Parts

-- a cluster as its rehearsal begins, with AutoRecovery enabled or not
abbrev pub cluster_of : List (List ℕ) → List (Option ℕ) → ℕ → ℕ → Bool → List Ledger → Contents → Cluster
cluster_of names lost_at grace delay enabled ledgers held = record {
  names = names;
  grace = grace;
  delay = delay;
  parts = record { lost_at = lost_at; ledgers = ledgers; held = held; scalars = first_scalars enabled };
}

-- the list with its element at that place changed, if there is one
abbrev pub change_at : {X : Type 0} → List X → ℕ → (X → X) → List X
change_at [] i f = []
change_at (x ∷ xs) zero f = f x ∷ xs
change_at (x ∷ xs) (suc i) f = x ∷ change_at xs i f

-- the registrations with that bookie's
abbrev pub register : List (Option ℕ) → ℕ → Option ℕ → List (Option ℕ)
register lost_at bookie lost = change_at lost_at bookie (λ _. lost)

-- the cluster with one part changed
abbrev pub with_registration : Cluster → ℕ → Option ℕ → Cluster
with_registration s bookie lost = record s {
  parts = record s.parts { lost_at = register s.parts.lost_at bookie lost };
}

abbrev pub with_ledgers : Cluster → List Ledger → Cluster
with_ledgers s ledgers = record s { parts = record s.parts { ledgers = ledgers } }

abbrev pub with_held : Cluster → Contents → Cluster
with_held s held = record s { parts = record s.parts { held = held } }

abbrev pub with_clock : Cluster → ℕ → Cluster
with_clock s clock = record s { parts = record s.parts { scalars = record s.parts.scalars { clock = clock } } }

abbrev pub with_enabled : Cluster → Bool → Cluster
with_enabled s enabled =
    record s { parts = record s.parts { scalars = record s.parts.scalars { enabled = enabled } } }

-- whether the bookie is registered
abbrev pub is_up : Cluster → ℕ → Bool
is_up s bookie = option_map_or is_none (slice_get s.parts.lost_at bookie) false

-- the tick at which the bookie was lost, if it is not registered
abbrev pub lost_tick : Cluster → ℕ → Option ℕ
lost_tick s bookie = option_and_then (λ lost. lost) (slice_get s.parts.lost_at bookie)

-- the bookie of that name
abbrev pub bookie_named : List (List ℕ) → List ℕ → Option ℕ
bookie_named names name = position (bytes_eq name) names

-- the ledger of that id
abbrev pub ledger_among : List Ledger → ℕ → Option Ledger
ledger_among ledgers l = find (λ g. g.id == l) ledgers

abbrev pub ledger_at : Cluster → ℕ → Option Ledger
ledger_at s l = ledger_among s.parts.ledgers l

-- how many words the ledger of that id has, none where there is no such ledger
abbrev pub words_among : List Ledger → ℕ → ℕ
words_among ledgers l = option_map_or (λ g. g.words) (ledger_among ledgers l) 0

-- the cluster with that ledger changed, and nothing else
abbrev pub change_ledger : Cluster → ℕ → (Ledger → Ledger) → Cluster
change_ledger s l change = with_ledgers s (map (λ g. if g.id == l then change g else g) s.parts.ledgers)

-- the bookies that a ledger's task names, none without a task
abbrev pub task_set : Ledger → Set numbers
task_set g = unwrap_or g.task set.empty

-- whether the worker holds the ledger's lock
abbrev pub is_locked_by : ℕ → Ledger → Bool
is_locked_by w g = option_map_or (λ lock. lock.owner == w) g.lock false

-- when a fence of the ledger is due, if that is set
abbrev pub due_of : Ledger → Option ℕ
due_of g = option_and_then (λ lock. lock.due) g.lock

-- whether the bookie, registered or not, holds the entry of the ledger
abbrev pub holds : Cluster → ℕ → ℕ → ℕ → Bool
holds s bookie ledger entry = has s.parts.held bookie ledger entry

-- whether the ledger's entry can be copied from the bookie: it is registered, and holds the entry
abbrev pub is_source : Cluster → ℕ → ℕ → ℕ → Bool
is_source s ledger entry bookie = is_up s bookie && holds s bookie ledger entry

-- whether the entry can be read: some member of its write set is a source of it
abbrev pub is_readable : Cluster → Ledger → Fragment → ℕ → Bool
is_readable s g fragment entry = list_any (is_source s g.id entry) (writes g.metadata fragment entry)

-- the stop of a ledger's fragment, if there is such a fragment and it has one
abbrev pub stop_at : Cluster → ℕ → ℕ → Option ℕ
stop_at s l f = option_and_then (λ g. stop_of g.metadata f) (ledger_at s l)

-- the entries of a ledger that a fragment stripes onto the index, rising; none where there is no such ledger or
-- fragment, or it has no stop
abbrev pub stripe_at : Cluster → ℕ → ℕ → ℕ → List ℕ
stripe_at s l f i = option_map_or (λ g. stripe_of g.metadata f i) (ledger_at s l) []
