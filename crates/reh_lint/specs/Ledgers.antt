-- The ledger that a line names and a picture doesn't have.
use Rattle.std.specs.Prelude.{◌≡◌, ℕ, is_none, if◌then◌else◌, List, map, Option, None, Some}
use Rattle.std.specs.Option.{option_and_then}
use Rattle.reh_types.specs.declared.moves.Event.{Event}
use Rattle.reh_types.specs.declared.moves.Event.TheVariants.{Acquire, Release, Finish, Grace, Roll, Fence, Seal, Copy, Swap}
use Rattle.reh_types.specs.declared.moves.Move.TheVariants.{Do}
use Rattle.reh_types.specs.declared.refusals.Refusal.{Refusal}
use Rattle.reh_model.specs.Cluster.{Cluster, ledger_at}
use Rattle.reh_model.specs.Scan.{aim_refusal}
use Rattle.reh_model.specs.Session.{replay}
use Rattle.reh_model.specs.Step.{refusal_of}
use Rattle.reh_commands.specs.declared.commands.Command.{Command}
use Rattle.reh_commands.specs.declared.commands.Command.TheVariants.{Make, Checkout}

-- the ledger that an event names, if it names one
abbrev pub event_ledger : Event → Option ℕ
event_ledger (Acquire worker ledger) = Some ledger
event_ledger (Release worker ledger) = Some ledger
event_ledger (Finish worker ledger) = Some ledger
event_ledger (Grace worker ledger) = Some ledger
event_ledger (Roll ledger index bookie) = Some ledger
event_ledger (Fence worker ledger) = Some ledger
event_ledger (Seal worker ledger) = Some ledger
event_ledger (Copy worker ledger fragment index version) = Some ledger
event_ledger (Swap worker ledger fragment index version) = Some ledger
event_ledger event = None

-- and the one that a command names: its event's, or that of the place whose scan it asks for
abbrev pub named_ledger : Command → Option ℕ
named_ledger (Make (Do event)) = event_ledger event
named_ledger (Checkout aim) = Some aim.ledger
named_ledger command = None

-- the ledger that a command names, if there is no ledger of that id
abbrev pub unless_there : Cluster → ℕ → Option ℕ
unless_there s l = if is_none (ledger_at s l) then Some l else None

abbrev pub missing_ledger : Cluster → Command → Option ℕ
missing_ledger s command = option_and_then (unless_there s) (named_ledger command)

-- the ids of the ledgers that there are
abbrev pub ids_of : Cluster → List ℕ
ids_of s = map (λ g. g.id) s.parts.ledgers

-- In a play

-- the state to which events lead that are accepted
abbrev pub IsReached : Cluster → Cluster → Type 0
IsReached s t = (events : List Event) × (replay s events ≡ Some t)

-- why an event, or a ticket for a scan, is refused
abbrev pub refusal_at : Cluster → Command → Option Refusal
refusal_at t (Make (Do event)) = refusal_of t event
refusal_at t (Checkout aim) = aim_refusal t aim
refusal_at t command = None
