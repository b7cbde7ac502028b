-- Worked lines and texts: the definitions, computed.
use Rattle.std.specs.Prelude.{◌≡◌, refl, ℕ, false, List, [], ◌∷◌, ◌++◌, codes, map, replicate, take, Option, Some, None, Result, Ok, Err}
use Rattle.reh_types.specs.declared.moves.Event.TheVariants.{Lose, Acquire, Grace, Tick, Roll, Fence, Seal, Copy, Disable, Enable}
use Rattle.reh_types.specs.declared.moves.Move.TheVariants.{Do, Look}
use Rattle.reh_commands.specs.declared.commands.Command.{Command}
use Rattle.reh_commands.specs.declared.commands.Command.TheVariants.{Make, Checkout, Spend, Discard, Report, Survey}
use Rattle.reh_commands.specs.declared.commands.LineFault.{LineFault}
use Rattle.reh_commands.specs.declared.commands.LineFault.TheVariants.{TooLong, UnknownCommand, BadWords, UnknownName}
use Rattle.reh_commands.specs.Script.{command_of_line, verbs}
use Rattle.std.specs.Fmt.{digits}
use Rattle.reh_types.specs.declared.moves.Reply.TheVariants.{Done, Clock, Issued, Discarded, Refused}
use Rattle.reh_types.specs.declared.refusals.Refusal.TheVariants.{Locked, NoTask, StillUnder, Stale, NotOut, HandFull, HandEmpty, Disabled, AlreadyDisabled, AlreadyEnabled}
use Rattle.reh_types.specs.declared.names.LedgerState.{LedgerState}
use Rattle.reh_types.specs.declared.names.LedgerState.TheVariants.{Open, InRecovery, Closed}
use Rattle.reh_types.specs.Sets.{contains, insert, empty, from_list, items}
use Rattle.reh_model.specs.Metadata.{Metadata, Fragment}
use Rattle.reh_model.specs.Cluster.{Cluster, with_clock, with_enabled, with_held, with_ledgers, with_registration}
use Rattle.reh_model.proofs.Examples.{clear_cluster}
use Rattle.reh_commands.specs.Texts.{reply_text, report}

-- two bookies
abbrev names : List (List ℕ)
names = codes "b1:3181" ∷ codes "b2:3181" ∷ []

-- what lines ask for
abbrev asked : List (List ℕ) → List (Option (Result Command LineFault))
asked lines = map (command_of_line names) lines

abbrev made : Command → Option (Result Command LineFault)
made command = Some (Ok command)

abbrev faulty : LineFault → Option (Result Command LineFault)
faulty fault = Some (Err fault)

-- spaces and tabs part words, also at both ends
pub words_parted : asked (codes "lose b2:3181" ∷ codes " \tlose \t b2:3181\t " ∷ codes "acquire b1:3181 7" ∷ codes "copy b2:3181 7 0 1 2" ∷ codes "report" ∷ [])
    ≡ made (Make (Do (Lose 1))) ∷ made (Make (Do (Lose 1))) ∷ made (Make (Do (Acquire 0 7))) ∷ made (Make (Do (Copy 1 7 0 1 2))) ∷ made Report ∷ []
unfolding verbs
words_parted = refl

-- a line without a word, and one whose first word begins with `#`, have no reply
pub no_reply : asked ([] ∷ codes " \t" ∷ codes "# lose nobody" ∷ codes "  #x" ∷ codes "\r" ∷ []) ≡ None ∷ None ∷ None ∷ None ∷ None ∷ []
unfolding verbs
no_reply = refl

-- the form of all words is judged before any name, and the verb before both
pub order_of_faults : asked (codes "copy nobody x 0 0 0" ∷ codes "copy nobody 7 0 0" ∷ codes "copy nobody 7 0 0 0" ∷ codes "lost nobody x" ∷ codes "lose" ∷ codes "undo 1" ∷ codes "lose 1" ∷ codes "Lose b1:3181" ∷ [])
    ≡ faulty BadWords ∷ faulty BadWords ∷ faulty UnknownName ∷ faulty UnknownCommand ∷ faulty BadWords ∷ faulty BadWords ∷ faulty UnknownName ∷ faulty UnknownCommand ∷ []
unfolding verbs
order_of_faults = refl

-- an open ledger's commands; a roll names the bookie after the numbers, and its form is judged first, too
pub open_ledgers : asked (codes "grace b1:3181 9" ∷ codes "roll 9 1 b2:3181" ∷ codes "fence b2:3181 9" ∷ codes "seal b2:3181 9" ∷ codes "roll b2:3181 9 1" ∷ codes "roll 9 x nobody" ∷ codes "roll 9 1 nobody" ∷ codes "roll 9 1" ∷ [])
    ≡ made (Make (Do (Grace 0 9))) ∷ made (Make (Do (Roll 9 1 1))) ∷ made (Make (Do (Fence 1 9))) ∷ made (Make (Do (Seal 1 9))) ∷ faulty BadWords ∷ faulty BadWords ∷ faulty UnknownName ∷ faulty BadWords ∷ []
unfolding verbs
open_ledgers = refl

-- AutoRecovery is disabled and enabled without further words
pub autorecovery_commands : asked (codes "disable" ∷ codes "enable" ∷ codes "disable 1" ∷ codes "disabled" ∷ []) ≡ made (Make (Do Disable)) ∷ made (Make (Do Enable)) ∷ faulty BadWords ∷ faulty UnknownCommand ∷ []
unfolding verbs
autorecovery_commands = refl

-- a player's own commands; a checkout names a worker, and the place that it aims at
pub hands : asked (codes "checkout b2:3181 7 0 1" ∷ codes "spend" ∷ codes "discard" ∷ codes "survey" ∷ codes "checkout b2:3181 7 0" ∷ codes "checkout b2:3181 7 0 1 0" ∷ codes "checkout nobody 7 0 1" ∷ codes "spend 1" ∷ [])
    ≡ made (Checkout (record { worker = 1; ledger = 7; fragment = 0; index = 1 })) ∷ made Spend ∷ made Discard ∷ made Survey ∷ faulty BadWords ∷ faulty BadWords ∷ faulty UnknownName ∷ faulty BadWords ∷ []
unfolding verbs
hands = refl

-- one CR at the end is dropped; a second one belongs to the last word
pub one_cr : asked (codes "clock\r" ∷ codes "clock\r\r" ∷ codes "tick 1\r" ∷ codes "tick 1\r\r" ∷ codes "\r\r" ∷ codes "clock\r " ∷ [])
    ≡ made (Make Look) ∷ faulty UnknownCommand ∷ made (Make (Do (Tick 1))) ∷ faulty BadWords ∷ faulty UnknownCommand ∷ faulty UnknownCommand ∷ []
unfolding verbs
one_cr = refl

-- a number has 1 to 13 digits, and the first ones may be zeros
pub digits_of_numbers : asked (codes "tick 00012" ∷ codes "tick 0000000000001" ∷ codes "tick 00000000000001" ∷ codes "tick 9999999999999" ∷ codes "tick 10000000000000" ∷ codes "tick -1" ∷ codes "tick +1" ∷ codes "tick 1x" ∷ [])
    ≡ made (Make (Do (Tick 12))) ∷ made (Make (Do (Tick 1))) ∷ faulty BadWords ∷ made (Make (Do (Tick 9_999_999_999_999))) ∷ faulty BadWords ∷ faulty BadWords ∷ faulty BadWords ∷ faulty BadWords ∷ []
unfolding verbs
digits_of_numbers = refl

-- a line has 1,024 bytes at most, its CR not counted, whatever is in it
pub length_of_lines : asked ((codes "clock" ++ replicate 1_019 32) ∷ (codes "clock" ++ replicate 1_019 32 ++ codes "\r") ∷ (codes "clock" ++ replicate 1_020 32) ∷ (codes "clock" ++ replicate 1_019 32 ++ codes "\r\r") ∷ replicate 1_024 35 ∷ replicate 1_025 35 ∷ replicate 1_025 32 ∷ [])
    ≡ made (Make Look) ∷ made (Make Look) ∷ faulty TooLong ∷ faulty TooLong ∷ None ∷ faulty TooLong ∷ faulty TooLong ∷ []
unfolding verbs
length_of_lines = refl

-- Texts

-- a lock's owner goes by name, or by number where there is no name for it
pub replies_printed : map (reply_text names) (Done ∷ Clock 12 ∷ Refused (Locked 1) ∷ Refused (Locked 5) ∷ Refused NoTask ∷ Refused (StillUnder 3) ∷ Refused (Stale 1_000_000_000_000) ∷ Issued 200_000 ∷ Discarded ∷ Refused NotOut ∷ Refused HandFull ∷ Refused HandEmpty ∷ Refused Disabled ∷ Refused AlreadyDisabled ∷ Refused AlreadyEnabled ∷ [])
    ≡ codes "ok" ∷ codes "clock 12" ∷ codes "refused 7 Locked b2:3181" ∷ codes "refused 7 Locked 5" ∷ codes "refused 6 NoTask" ∷ codes "refused 9 StillUnder 3" ∷ codes "refused 24 Stale 1000000000000" ∷ codes "ticket 200000" ∷ codes "discarded" ∷ codes "refused 37 NotOut" ∷ codes "refused 39 HandFull" ∷ codes "refused 40 HandEmpty" ∷ codes "refused 42 Disabled" ∷ codes "refused 43 AlreadyDisabled" ∷ codes "refused 44 AlreadyEnabled" ∷ []
unfolding digits
replies_printed = refl

abbrev metadata_of : LedgerState → ℕ → List Fragment → Metadata
metadata_of state version fragments = record { size = 2; write_quorum = 2; ack_quorum = 1; state = state; version = version; fragments = fragments }

abbrev fragment : ℕ → List ℕ → Fragment
fragment first ensemble = record { first = first; ensemble = ensemble }

-- ledgers in each state; one with a task that is locked, one with a task and a grace that runs
abbrev worked : Cluster
worked =
    let second_lost = with_registration (clear_cluster (codes "b1" ∷ codes "b2" ∷ codes "b3" ∷ [])) 1 (Some 4) in
    with_clock (with_held (with_ledgers second_lost
    (record { id = 7; metadata = metadata_of (Closed 6) 2 (fragment 0 (0 ∷ 1 ∷ []) ∷ fragment 4 (1 ∷ 2 ∷ []) ∷ []); words = 1; task = Some (from_list (1 ∷ [])); lock = Some (record { owner = 2; due = None }) }
    ∷ record { id = 0; metadata = metadata_of (Closed 0) 0 (fragment 0 (2 ∷ 0 ∷ []) ∷ []); words = 0; task = None; lock = None }
    ∷ record { id = 1_000_000_000_000; metadata = metadata_of Open 0 (fragment 0 (0 ∷ 1 ∷ []) ∷ []); words = 0; task = Some (from_list (2 ∷ 0 ∷ [])); lock = Some (record { owner = 0; due = Some 8 }) }
    ∷ record { id = 3; metadata = metadata_of InRecovery 1 (fragment 0 (0 ∷ 1 ∷ []) ∷ []); words = 1; task = Some (from_list (1 ∷ [])); lock = None }
    ∷ []))
    (from_list ((0, 7, 0) ∷ (1, 7, 0) ∷ (1, 7, 4) ∷ (1, 3, 0) ∷ []))) 5

pub report_printed : report worked
    ≡ codes "clock 5 grace 3" ∷ codes "bookie b1 up 1" ∷ codes "bookie b2 down 3" ∷ codes "bookie b3 up 0"
    ∷ codes "ledger 7 CLOSED version 2 last 5 quorum 2 2 1" ∷ codes "fragment 0 first 0 stop 4 b1 b2" ∷ codes "fragment 1 first 4 stop 6 b2 b3" ∷ codes "task b2" ∷ codes "lock b3"
    ∷ codes "ledger 0 CLOSED version 0 last -1 quorum 2 2 1" ∷ codes "fragment 0 first 0 stop 0 b3 b1"
    ∷ codes "ledger 1000000000000 OPEN version 0 last - quorum 2 2 1" ∷ codes "fragment 0 first 0 stop - b1 b2" ∷ codes "task b1 b3" ∷ codes "lock b1 due 8"
    ∷ codes "ledger 3 IN_RECOVERY version 1 last - quorum 2 2 1" ∷ codes "fragment 0 first 0 stop - b1 b2" ∷ codes "task b2" ∷ []
unfolding digits contains insert empty from_list items
report_printed = refl

-- a report says that AutoRecovery is disabled, after its first line
pub disabled_report : report (with_enabled (clear_cluster names) false) ≡ codes "clock 0 grace 3" ∷ codes "autorecovery disabled" ∷ codes "bookie b1:3181 up 0" ∷ codes "bookie b2:3181 up 0" ∷ []
unfolding digits contains insert empty from_list items
disabled_report = refl

-- with a delay, the report tells it, and when a bookie was lost
pub delay_printed : take 4 (report (record worked { delay = 2 }))
    ≡ codes "clock 5 grace 3 delay 2" ∷ codes "bookie b1 up 1" ∷ codes "bookie b2 down 3 since 4" ∷ codes "bookie b3 up 0" ∷ []
unfolding digits contains insert empty from_list items
delay_printed = refl
