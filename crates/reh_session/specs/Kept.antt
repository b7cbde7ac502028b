-- What a session keeps: its present state, and under one cursor a list of events and one of records.
use Rattle.std.specs.Prelude.{◌≡◌, ℕ, ◌≤◌, List, [], ◌∷◌, length, take, drop, None}
use Rattle.reh_types.specs.declared.limits.TheConstants.{MAX_EVENTS}
use Rattle.reh_types.specs.declared.moves.Event.{Event}
use Rattle.reh_model.specs.Cluster.{Cluster}
use Rattle.reh_model.specs.WellFormed.{IsWellFormed}
use Rattle.reh_model.specs.Places.{Change, exchanged, IsDelta}
use Rattle.reh_model.specs.Step.{refusal_of, after}
use Rattle.reh_model.specs.Session.{Session}

-- the cluster to which records lead back, the newest exchanged first
abbrev pub led_back : Cluster → List (List Change) → Cluster
led_back s [] = s
led_back s (changes ∷ records) = exchanged (led_back s records) changes

-- the cluster to which records lead on, the first exchanged first
abbrev pub led_on : Cluster → List (List Change) → Cluster
led_on s [] = s
led_on s (changes ∷ records) = led_on (exchanged s changes) records

-- The events before the cursor survive, the others are undone. The opening cluster is kept nowhere: the records of the
-- surviving events lead back to it.
abbrev pub session_of : Cluster → List Event → List (List Change) → ℕ → Session
session_of s events records cursor =
    record { opening = led_back s (take cursor records); done = take cursor events; undone = drop cursor events }

-- events that lead from one cluster to another, each with the record that leads back over it
abbrev pub Trail : Cluster → List Event → List (List Change) → Cluster → Type 0
Trail s [] [] t = s ≡ t
Trail s (event ∷ events) (changes ∷ records) t =
    (refusal_of s event ≡ None) × IsDelta (after s event) s changes × Trail (after s event) events records t
Trail s events records t = ⊥

-- events that can be made from a cluster, each with the record that makes it
abbrev pub Ahead : Cluster → List Event → List (List Change) → Type 0
Ahead s [] [] = Unit {0}
Ahead s (event ∷ events) (changes ∷ records) =
    (refusal_of s event ≡ None) × IsDelta s (after s event) changes × Ahead (after s event) events records
Ahead s events records = ⊥

-- each record before the cursor leads back over its event, and each one after it makes its event
pub record IsKept (s : Cluster) (events : List Event) (records : List (List Change)) (cursor : ℕ) : Type 0 where
  pub within : cursor ≤ length events
  pub few : length events ≤ MAX_EVENTS
  pub paired : length records ≡ length events
  pub well_formed : IsWellFormed s
  pub done : Trail (led_back s (take cursor records)) (take cursor events) (take cursor records) s
  pub undone : Ahead s (drop cursor events) (drop cursor records)
