-- Which clusters there can be: the limits, the rules of ledgers, and what tasks, locks and due ticks stand on.
use Rattle.std.specs.Prelude.{◌≡◌, ℕ, ◌+◌, ◌*◌, ◌<◌, ◌≤◌, List, map, length, sum_by, IsTrue, nat_eq, All, Option}
use Rattle.std.specs.List.{IsDistinct}
use Rattle.std.specs.Option.{ForSome, IsSome}
use Rattle.std.specs.Str.{bytes_eq}
use Rattle.reh_types.specs.declared.limits.TheConstants.{CLOCK_END, ENTRIES_IN_WORD, ENTRY_END, MAX_BOOKIES, MAX_DELAY}
use Rattle.reh_types.specs.declared.limits.TheConstants.{MAX_GRACE, MAX_LEDGERS, MAX_LEDGER_ID, MAX_WORDS}
use Rattle.reh_types.specs.Sets as set
use Rattle.reh_types.specs.Sets.{Set, numbers}
use Rattle.reh_model.specs.Contents.{Contents}
use Rattle.reh_model.specs.Metadata.{IsMetadata, is_open}
use Rattle.reh_model.specs.Cluster.{Cluster, Ledger, due_of, ledger_among, words_among}

-- the names of the bookies: at least one, and none twice
pub record AreNames (names : List (List ℕ)) : Type 0 where
  pub some : 1 ≤ length names
  pub few : length names ≤ MAX_BOOKIES
  pub different : IsDistinct bytes_eq names

-- a registration of each bookie, and none was lost at a tick to come
pub record AreRegistrations (bookies clock : ℕ) (lost_at : List (Option ℕ)) : Type 0 where
  pub each : length lost_at ≡ bookies
  pub ticks : All (λ lost. ForSome lost (λ tick. tick ≤ clock)) lost_at

-- a ledger among so many bookies, where no due tick is past the latest one: its metadata, which names these bookies,
-- its words, its task and its lock
pub record IsLedger (bookies latest : ℕ) (g : Ledger) : Type 0 where
  pub id : g.id ≤ MAX_LEDGER_ID
  pub metadata : IsMetadata g.metadata
  pub members : All (λ fragment. All (λ b. b < bookies) fragment.ensemble) g.metadata.fragments
  pub words : ENTRIES_IN_WORD * g.words ≤ ENTRY_END
  pub task : ForSome g.task (λ task. (0 < set.len task) × All (λ b. b < bookies) (set.items task))
  pub lock : ForSome g.lock (λ lock. (lock.owner < bookies) × IsSome g.task)
  pub due : ForSome (due_of g) (λ due. (due ≤ latest) × IsTrue (is_open g.metadata.state))

pub record AreLedgers (bookies latest : ℕ) (ledgers : List Ledger) : Type 0 where
  pub few : length ledgers ≤ MAX_LEDGERS
  pub different : IsDistinct nat_eq (map (λ g. g.id) ledgers)
  pub each : All (IsLedger bookies latest) ledgers

-- the bookie and the ledger are in the picture, and the entry lies within the ledger's words
abbrev pub IsCopy : ℕ → List Ledger → ℕ × ℕ × ℕ → Type 0
IsCopy bookies ledgers t =
    (t.0 < bookies) × IsSome (ledger_among ledgers t.1) × (t.2 < ENTRIES_IN_WORD * words_among ledgers t.1)

pub record AreContents (bookies : ℕ) (ledgers : List Ledger) (held : Contents) : Type 0 where
  pub copies : All (IsCopy bookies ledgers) (set.items held)
  pub words : bookies * sum_by (λ g. g.words) ledgers ≤ MAX_WORDS

pub record IsWellFormed (s : Cluster) : Type 0 where
  pub names : AreNames s.names
  pub grace : s.grace ≤ MAX_GRACE
  pub delay : s.delay ≤ MAX_DELAY
  pub clock : s.parts.scalars.clock ≤ CLOCK_END
  pub registrations : AreRegistrations (length s.names) s.parts.scalars.clock s.parts.lost_at
  pub ledgers : AreLedgers (length s.names) (s.parts.scalars.clock + s.grace) s.parts.ledgers
  pub contents : AreContents (length s.names) s.parts.ledgers s.parts.held
