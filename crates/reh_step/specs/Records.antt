-- Records of events, and changes of words, as a copy and a seal make them.
use Rattle.std.specs.Prelude.{◌≡◌, ℕ, ◌==◌, if◌then◌else◌, List, map, nat_eq, Option, None, position, Result, IfOk}
use Rattle.std.specs.Prelude.{IfErr}
use Rattle.std.specs.List.{filter, list_any}
use Rattle.reh_types.specs.declared.changes.Change.TheVariants.{Word}
use Rattle.reh_types.specs.declared.moves.Event.{Event}
use Rattle.reh_types.specs.declared.refusals.Refusal.{Refusal}
use Rattle.reh_held.specs.declared.turns.Turn.{Turn}
use Rattle.reh_model.specs.Cluster.{Cluster, Ledger, is_up}
use Rattle.reh_model.specs.Recovery.{up_writes, recovered_entries}
use Rattle.reh_model.specs.Refusals.{or_no_memory}
use Rattle.reh_model.specs.Step.{refusal_of, after}
use Rattle.reh_model.specs.Places.{Change, IsDelta}

-- the changes are the record of the event: they are the difference that it makes
abbrev pub IsRecordOf : Cluster → Event → List Change → Type 0
IsRecordOf s event changes = IsDelta s (after s event) changes

-- what answers an event: its record, where it is accepted, and else its first refusal; out of memory comes after all
-- others
pub record IsDecision (s : Cluster) (event : Event) (result : Result (List Change) Refusal) : Type 0 where
  pub accepted : IfOk result (λ _. refusal_of s event ≡ None)
  pub delta : IfOk result (IsRecordOf s event)
  pub err : IfErr result (λ refusal. refusal ≡ or_no_memory (refusal_of s event))

-- the change of a word that turns
abbrev pub word_change : ℕ → ℕ → Turn → Change
word_change b l u = Word b l u.number u.bits

-- the changes of all words that turn
abbrev pub word_changes : ℕ → ℕ → List Turn → List Change
word_changes b l us = map (word_change b l) us

-- the index of the bookie among the members, if it is there and registered
abbrev pub registered_index : Cluster → List ℕ → ℕ → Option ℕ
registered_index s members b = if is_up s b then position (λ member. member == b) members else None

-- the entries that a recovery passes and writes back to the bookie: those that have it in their write set, while it is
-- registered
abbrev pub recovered_by : Cluster → Ledger → ℕ → List ℕ
recovered_by s g b = filter (λ e. list_any (nat_eq b) (up_writes s g e)) (recovered_entries s g)
