-- The places of a cluster's parts; records of changes, and what exchanging a record makes of the parts and of it.
use Rattle.std.specs.Prelude.{◌≡◌, ◌≢◌, ℕ, zero, suc, ◌<◌, ◌/◌, ◌^◌, List, [], ◌∷◌, All, map}
use Rattle.std.specs.Prelude.{length, slice_get, Option, ◌⊎◌}
use Rattle.std.specs.Option.{option_map}
use Rattle.reh_types.specs.declared.changes.Change as change
use Rattle.reh_types.specs.declared.changes.Change.TheVariants.{Registration, Metadata, Task, Lock, Word, Scalar}
use Rattle.reh_types.specs.declared.scalars.Scalar as scalars
use Rattle.reh_types.specs.Scalars.{number_of, scalar_at, with_scalar}
use Rattle.reh_model.specs.Metadata as meta
use Rattle.reh_model.specs.Contents.{has, turned}
use Rattle.reh_model.specs.Cluster.{Parts, Cluster, Ledger, change_at, register, words_among}
use Rattle.reh_model.specs.WellFormed.{IsWellFormed}

abbrev pub Change : Type 0
Change = change.Change meta.Metadata

-- Places

-- a bookie's registration; the metadata, the task and the lock of the ledger that stands at a place of the picture;
-- the 64 entries from 64 k on that a bookie holds of the ledger of an id; or the scalar of a number
pub data Place : Type 0 where
  at_registration : ℕ → Place
  at_metadata : ℕ → Place
  at_task : ℕ → Place
  at_lock : ℕ → Place
  at_word : ℕ → ℕ → ℕ → Place
  at_scalar : ℕ → Place

abbrev pub place_of : Change → Place
place_of (Registration b lost) = at_registration b
place_of (Metadata i metadata) = at_metadata i
place_of (Task i task) = at_task i
place_of (Lock i lock) = at_lock i
place_of (Word b l k bits) = at_word b l k
place_of (Scalar scalar) = at_scalar (number_of scalar)

-- Places stand in one order: registrations, metadata, tasks, locks, words and scalars, and each kind by its numbers.
abbrev pub order_of : Place → List ℕ
order_of (at_registration b) = 0 ∷ b ∷ []
order_of (at_metadata i) = 1 ∷ i ∷ []
order_of (at_task i) = 2 ∷ i ∷ []
order_of (at_lock i) = 3 ∷ i ∷ []
order_of (at_word b l k) = 4 ∷ b ∷ l ∷ k ∷ []
order_of (at_scalar n) = 5 ∷ n ∷ []

-- the first numbers that differ rise
abbrev pub IsLess : List ℕ → List ℕ → Type 0
IsLess (m ∷ ms) (n ∷ ns) = (m < n) ⊎ ((m ≡ n) × IsLess ms ns)
IsLess ms ns = ⊥

abbrev pub IsBefore : Place → Place → Type 0
IsBefore p q = IsLess (order_of p) (order_of q)

-- each place is before all that follow it
abbrev pub AreRising : List Place → Type 0
AreRising [] = Unit {0}
AreRising (p ∷ ps) = All (IsBefore p) ps × AreRising ps

-- One change

-- what is read of the element at that place, or else d
abbrev pub read_at : {X C : Type 0} → (X → C) → List X → ℕ → C → C
read_at get [] i d = d
read_at get (x ∷ xs) zero d = get x
read_at get (x ∷ xs) (suc i) d = read_at get xs i d

-- the parts with that place changed; a ledger's place that is not there changes nothing
abbrev pub put : Parts → Change → Parts
put p (Registration b lost) = record p { lost_at = register p.lost_at b lost }
put p (Metadata i metadata) = record p { ledgers = change_at p.ledgers i (λ g. record g { metadata = metadata }) }
put p (Task i task) = record p { ledgers = change_at p.ledgers i (λ g. record g { task = task }) }
put p (Lock i lock) = record p { ledgers = change_at p.ledgers i (λ g. record g { lock = lock }) }
put p (Word b l k bits) = record p { held = turned p.held b l k bits }
put p (Scalar scalar) = record p { scalars = with_scalar p.scalars scalar }

-- what such a change leaves in its place: the contents from before, or the same bits
abbrev pub back : Parts → Change → Change
back p (Registration b lost) = Registration b (read_at (λ lost. lost) p.lost_at b lost)
back p (Metadata i metadata) = Metadata i (read_at (λ g. g.metadata) p.ledgers i metadata)
back p (Task i task) = Task i (read_at (λ g. g.task) p.ledgers i task)
back p (Lock i lock) = Lock i (read_at (λ g. g.lock) p.ledgers i lock)
back p (Word b l k bits) = Word b l k bits
back p (Scalar scalar) = Scalar (scalar_at p.scalars scalar)

-- the change's place is one of the parts, where there are so many bookies, and a word's bits are 64
abbrev pub IsPlaced : ℕ → Parts → Change → Type 0
IsPlaced bookies p (Registration b lost) = b < length p.lost_at
IsPlaced bookies p (Metadata i metadata) = i < length p.ledgers
IsPlaced bookies p (Task i task) = i < length p.ledgers
IsPlaced bookies p (Lock i lock) = i < length p.ledgers
IsPlaced bookies p (Word b l k bits) = (b < bookies) × (k < words_among p.ledgers l) × (bits < 2 ^ 64)
IsPlaced bookies p (Scalar scalar) = Unit {0}

-- Records

-- the parts after all changes, one by one
abbrev pub put_all : Parts → List Change → Parts
put_all p [] = p
put_all p (c ∷ cs) = put_all (put p c) cs

-- what they leave
abbrev pub back_all : Parts → List Change → List Change
back_all p [] = []
back_all p (c ∷ cs) = back p c ∷ back_all (put p c) cs

-- the cluster after an exchange
abbrev pub exchanged : Cluster → List Change → Cluster
exchanged s cs = record s { parts = put_all s.parts cs }

-- the record that it leaves
abbrev pub left : Cluster → List Change → List Change
left s cs = back_all s.parts cs

-- the change's place is one of the cluster's
abbrev pub IsThere : Cluster → Change → Type 0
IsThere s c = IsPlaced (length s.names) s.parts c

-- the record fits the cluster: its places are there, and what it makes of the cluster is well-formed
pub record Fits (s : Cluster) (cs : List Change) : Type 0 where
  pub there : All (IsThere s) cs
  pub well_formed : IsWellFormed (exchanged s cs)

-- Differences

-- a part of the ledger at that place, if there is one
abbrev pub part_at : {C : Type 0} → (Ledger → C) → Parts → ℕ → Option C
part_at get p i = option_map get (slice_get p.ledgers i)

-- whether the parts are the same at a place
abbrev pub SameAt : Parts → Parts → Place → Type 0
SameAt p q (at_registration b) = slice_get p.lost_at b ≡ slice_get q.lost_at b
SameAt p q (at_metadata i) = part_at (λ g. g.metadata) p i ≡ part_at (λ g. g.metadata) q i
SameAt p q (at_task i) = part_at (λ g. g.task) p i ≡ part_at (λ g. g.task) q i
SameAt p q (at_lock i) = part_at (λ g. g.lock) p i ≡ part_at (λ g. g.lock) q i
SameAt p q (at_word b l k) = (e : ℕ) → e / 64 ≡ k → has p.held b l e ≡ has q.held b l e
SameAt p q (at_scalar n) =
    (scalar : scalars.Scalar) → number_of scalar ≡ n → scalar_at p.scalars scalar ≡ scalar_at q.scalars scalar

-- the record changes s to t, and has exactly one change for each place in which they differ
pub record IsDelta (s t : Cluster) (cs : List Change) : Type 0 where
  pub rising : AreRising (map place_of cs)
  pub fits : Fits s cs
  pub makes : exchanged s cs ≡ t
  -- at each place of the record they differ
  pub differ : All (λ p. ¬ SameAt s.parts t.parts p) (map place_of cs)
  -- at every other place they are the same
  pub elsewhere : (p : Place) → All (λ q. p ≢ q) (map place_of cs) → SameAt s.parts t.parts p
