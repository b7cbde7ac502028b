-- The hand of a player: the findings that it holds, oldest first, and the calls that its commands make.
use Rattle.std.specs.Prelude.{◌≡◌, ℕ, nat_le, if◌then◌else◌, List, [], ◌∷◌, ◌++◌, length, drop, Option, None, Some}
use Rattle.std.specs.Prelude.{IfSome}
use Rattle.reh_types.specs.declared.calls.Call.{Call}
use Rattle.reh_types.specs.declared.calls.Call.TheVariants as call
use Rattle.reh_types.specs.declared.contents.Content.{Content}
use Rattle.reh_types.specs.declared.limits.TheConstants.{MAX_HAND}
use Rattle.reh_types.specs.declared.moves.Reply.{Reply}
use Rattle.reh_types.specs.declared.moves.Reply.TheVariants.{Done, Clock, Issued, Discarded, Refused}
use Rattle.reh_types.specs.declared.names.Aim.{Aim}
use Rattle.reh_model.specs.Book.{is_written}
use Rattle.reh_model.specs.Cluster.{Cluster}
use Rattle.reh_model.specs.Scan.{scan}
use Rattle.reh_desk.specs.Numbered.{Numbered}
use Rattle.reh_commands.specs.declared.commands.Command.{Command}
use Rattle.reh_commands.specs.declared.commands.Command.TheVariants.{Make, Checkout, Spend, Discard, Report, Survey}

-- Calls

-- the calls of the oldest finding, if there is one
abbrev pub spend_of : Numbered → Call
spend_of finding = call.Spend finding.number finding.content

abbrev pub discard_of : Numbered → Call
discard_of finding = call.Discard finding.number finding.content.aim

abbrev pub of_oldest : (Numbered → Call) → List Numbered → Option Call
of_oldest make [] = None
of_oldest make (finding ∷ hand) = Some (make finding)

-- the call that a player with this hand makes for a command: none where the hand is full, or empty, or for what is
-- shown
abbrev pub call_of : Command → List Numbered → Option Call
call_of (Make move) hand = Some (call.Ask move)
call_of (Checkout aim) hand = if nat_le MAX_HAND (length hand) then None else Some (call.Checkout aim)
call_of Spend hand = of_oldest spend_of hand
call_of Discard hand = of_oldest discard_of hand
call_of Report hand = None
call_of Survey hand = None

-- Hands

-- a finding, where something was found
abbrev pub found : ℕ → Option Content → List Numbered
found number None = []
found number (Some content) = record { number = number; content = content } ∷ []

-- with what a scan finds at this state, if a ticket was issued
abbrev pub hand_issued : Cluster → Aim → Reply → List Numbered → List Numbered
hand_issued s aim Done hand = hand
hand_issued s aim (Clock clock) hand = hand
hand_issued s aim (Issued number) hand = hand ++ found number (scan s aim)
hand_issued s aim Discarded hand = hand
hand_issued s aim (Refused refusal) hand = hand

-- the hand after a command's call at this state, and its reply: a spend and a discard take the oldest, but for a
-- spend whose ticket was not out
abbrev pub hand_after : Cluster → Command → Reply → List Numbered → List Numbered
hand_after s (Make move) reply hand = hand
hand_after s (Checkout aim) reply hand = hand_issued s aim reply hand
hand_after s Spend reply hand = if is_written reply then drop 1 hand else hand
hand_after s Discard reply hand = drop 1 hand
hand_after s Report reply hand = hand
hand_after s Survey reply hand = hand

-- The same at a counter that shows its state, or shows none: there a ticket may find anything of its aim.

abbrev pub HandIssued : Option Cluster → Aim → Reply → List Numbered → List Numbered → Type 0
HandIssued scene aim Done hand next = next ≡ hand
HandIssued scene aim (Clock clock) hand next = next ≡ hand
HandIssued scene aim (Issued number) hand next =
    (content : Content) × (content.aim ≡ aim) × IfSome scene (λ s. scan s aim ≡ Some content)
    × (next ≡ hand ++ found number (Some content))
HandIssued scene aim Discarded hand next = next ≡ hand
HandIssued scene aim (Refused refusal) hand next = next ≡ hand

abbrev pub HandAfter : Option Cluster → Command → Reply → List Numbered → List Numbered → Type 0
HandAfter scene (Make move) reply hand next = next ≡ hand
HandAfter scene (Checkout aim) reply hand next = HandIssued scene aim reply hand next
HandAfter scene Spend reply hand next = next ≡ (if is_written reply then drop 1 hand else hand)
HandAfter scene Discard reply hand next = next ≡ drop 1 hand
HandAfter scene Report reply hand next = next ≡ hand
HandAfter scene Survey reply hand next = next ≡ hand
