-- Which commands of a plan are needed: what they do is used.
use Rattle.std.specs.Prelude.{ℕ, ◌==◌, ◌&&◌, Bool, true, false, IsFalse, IsTrue, List, [], ◌∷◌}
use Rattle.std.specs.List.{list_any}
use Rattle.reh_types.specs.declared.moves.Event.{Event}
use Rattle.reh_types.specs.declared.moves.Event.TheVariants.{Acquire, Grace, Fence, Seal, Copy, Swap}
use Rattle.reh_plan.specs.Ends.{says_full}

-- whether the worker grants a grace, closes the ledger or copies its entries by the event
abbrev pub is_by : ℕ → ℕ → Event → Bool
is_by w l (Grace worker ledger) = (worker == w) && (ledger == l)
is_by w l (Seal worker ledger) = (worker == w) && (ledger == l)
is_by w l (Copy worker ledger fragment index version) = (worker == w) && (ledger == l)
is_by w l other = false

-- whether the worker fences the ledger by the event, or closes it
abbrev pub is_fence : ℕ → ℕ → Event → Bool
is_fence w l (Fence worker ledger) = (worker == w) && (ledger == l)
is_fence w l other = false

abbrev pub is_seal : ℕ → ℕ → Event → Bool
is_seal w l (Seal worker ledger) = (worker == w) && (ledger == l)
is_seal w l other = false

-- whether the worker takes that place by the event
abbrev pub is_swap : ℕ → ℕ → ℕ → ℕ → Event → Bool
is_swap w l f i (Swap worker ledger fragment index version) =
    (worker == w) && ((ledger == l) && ((fragment == f) && (index == i)))
is_swap w l f i other = false

-- whether it is so of the first of these events
abbrev pub is_first : (Event → Bool) → List Event → Bool
is_first is [] = false
is_first is (event ∷ events) = is event

-- whether what an event does is used after it: a lock, a fence and a copy at once, and a grace by a fence
abbrev pub is_used : Event → List Event → Bool
is_used (Acquire w l) events = is_first (is_by w l) events
is_used (Fence w l) events = is_first (is_seal w l) events
is_used (Copy w l f i v) events = is_first (is_swap w l f i) events
is_used (Grace w l) events = list_any (is_fence w l) events
is_used other events = true

-- whether that is so of each of these events
abbrev pub are_used : List Event → Bool
are_used [] = true
are_used (event ∷ events) = is_used event events && are_used events

-- of a script with these lines and events it is, unless the script says that it is full
abbrev pub AreNeeded : List (List ℕ) → List Event → Type 0
AreNeeded lines events = IsFalse (says_full lines) → IsTrue (are_used events)
