-- What is printed: replies, and the report of a cluster.
use Rattle.std.specs.Prelude.{ℕ, ◌-◌, ◌==◌, if◌then◌else◌, Bool, List, [], ◌∷◌, ◌++◌, map, Option, None, Some}
use Rattle.std.specs.Prelude.{unwrap_or, slice_get, filter, flat_map, codes}
use Rattle.std.specs.List.{enumerate_from}
use Rattle.std.specs.Option.{option_map_or}
use Rattle.std.specs.Fmt.{decimal}
use Rattle.reh_types.specs.declared.names.LedgerState.{LedgerState}
use Rattle.reh_types.specs.declared.names.LedgerState.TheVariants.{Open, InRecovery, Closed}
use Rattle.reh_types.specs.declared.locks.Lock.{Lock}
use Rattle.reh_types.specs.declared.refusals.Refusal.TheVariants.{Locked}
use Rattle.reh_types.specs.declared.moves.Reply.{Reply}
use Rattle.reh_types.specs.declared.moves.Reply.TheVariants.{Refused}
use Rattle.reh_types.specs.declared.surveys.SurveyLine.{SurveyLine}
use Rattle.reh_types.specs.Sets as set
use Rattle.reh_types.specs.Sets.{Set, numbers}
use Rattle.reh_types.specs.Texts as types
use Rattle.reh_model.specs.Contents.{count_held}
use Rattle.reh_model.specs.Metadata.{Metadata, Fragment, stop_of}
use Rattle.reh_model.specs.Cluster.{Cluster, Ledger, is_up, lost_tick}
use Rattle.reh_commands.specs.declared.commands.LineFault.{LineFault}
use Rattle.reh_commands.specs.declared.commands.LineFault.TheVariants.{TooLong, UnknownCommand, BadWords, UnknownName}

-- each word after a space
abbrev pub behind_spaces : List (List ℕ) → List ℕ
behind_spaces words = flat_map (λ word. codes " " ++ word) words

-- words with single spaces between them
abbrev pub spaced : List (List ℕ) → List ℕ
spaced [] = []
spaced (word ∷ words) = word ++ behind_spaces words

-- lines, each with its LF
abbrev pub text_of : List (List ℕ) → List ℕ
text_of lines = flat_map (λ line. line ++ codes "\n") lines

-- the bookie's name, or its number where the names have none for it
abbrev pub name_of : List (List ℕ) → ℕ → List ℕ
name_of names bookie = unwrap_or (slice_get names bookie) (decimal bookie)

-- Replies

-- a reply, as it is printed after its line's number: a lock's owner goes by name, other values in decimal
abbrev pub reply_text : List (List ℕ) → Reply → List ℕ
reply_text names (Refused (Locked owner)) = codes "refused 7 Locked " ++ name_of names owner
reply_text names reply = types.reply_text reply

-- The reply to a line that asks for nothing
abbrev pub line_fault_text : LineFault → List ℕ
line_fault_text TooLong = codes "too long"
line_fault_text UnknownCommand = codes "unknown command"
line_fault_text BadWords = codes "bad words"
line_fault_text UnknownName = codes "unknown name"

-- The report

-- the delay for lost bookies, where there is one
abbrev pub delay_words : ℕ → List (List ℕ)
delay_words delay = if delay == 0 then [] else codes "delay" ∷ decimal delay ∷ []

-- the clock, the grace and the delay
abbrev pub clock_line : Cluster → List ℕ
clock_line s =
    spaced (codes "clock" ∷ decimal s.parts.scalars.clock ∷ codes "grace" ∷ decimal s.grace ∷ delay_words s.delay)

-- that AutoRecovery is disabled, while it is
abbrev pub autorecovery_lines : Bool → List (List ℕ)
autorecovery_lines enabled = if enabled then [] else codes "autorecovery disabled" ∷ []

abbrev pub registration : Bool → List ℕ
registration up = if up then codes "up" else codes "down"

-- when a bookie was lost, where there is a delay
abbrev pub since_words : ℕ → Option ℕ → List (List ℕ)
since_words delay lost =
    if delay == 0 then [] else option_map_or (λ tick. codes "since" ∷ decimal tick ∷ []) lost []

-- a bookie's name, whether it is registered, how many entries it holds, and when it was lost
abbrev pub bookie_line : Cluster → ℕ → List ℕ → List ℕ
bookie_line s bookie name =
    spaced (codes "bookie" ∷ name ∷ registration (is_up s bookie) ∷ decimal (count_held s.parts.held bookie)
    ∷ since_words s.delay (lost_tick s bookie))

-- the state of a ledger
abbrev pub state_word : LedgerState → List ℕ
state_word Open = codes "OPEN"
state_word InRecovery = codes "IN_RECOVERY"
state_word (Closed end) = codes "CLOSED"

-- its last entry id: of a closed ledger one less than where it ends, which is -1 for one without an entry
abbrev pub last_word : LedgerState → List ℕ
last_word Open = codes "-"
last_word InRecovery = codes "-"
last_word (Closed end) = if end == 0 then codes "-1" else decimal (end - 1)

abbrev pub ledger_line : ℕ → Metadata → List ℕ
ledger_line id m =
    spaced (codes "ledger" ∷ decimal id ∷ state_word m.state ∷ codes "version" ∷ decimal m.version ∷ codes "last"
    ∷ last_word m.state
    ∷ codes "quorum" ∷ decimal m.size ∷ decimal m.write_quorum ∷ decimal m.ack_quorum ∷ [])

-- where a fragment stops, if it does
abbrev pub stop_word : Option ℕ → List ℕ
stop_word None = codes "-"
stop_word (Some stop) = decimal stop

-- a fragment by its number, where it stops, and its ensemble
abbrev pub fragment_line : List (List ℕ) → ℕ → Fragment → Option ℕ → List ℕ
fragment_line names number fragment stop =
    spaced (codes "fragment" ∷ decimal number ∷ codes "first" ∷ decimal fragment.first ∷ codes "stop" ∷ stop_word stop
    ∷ map (name_of names) fragment.ensemble)

abbrev pub fragment_lines : List (List ℕ) → Metadata → List (List ℕ)
fragment_lines names m =
    map (λ place. fragment_line names place.0 place.1 (stop_of m place.0)) (enumerate_from 0 m.fragments)

-- the names of these bookies, in picture order
abbrev pub names_in : List (List ℕ) → Set numbers → List (List ℕ)
names_in names bookies =
    map (λ place. place.1) (filter (λ place. set.contains bookies place.0) (enumerate_from 0 names))

-- the bookies that a task is to replace, if there is one
abbrev pub task_lines : List (List ℕ) → Option (Set numbers) → List (List ℕ)
task_lines names task = option_map_or (λ bookies. spaced (codes "task" ∷ names_in names bookies) ∷ []) task []

abbrev pub due_words : Option ℕ → List (List ℕ)
due_words None = []
due_words (Some due) = codes "due" ∷ decimal due ∷ []

-- who locks the task, if it is locked, and the due tick, if a grace runs
abbrev pub lock_lines : List (List ℕ) → Option Lock → List (List ℕ)
lock_lines names lock =
    option_map_or (λ lock. spaced (codes "lock" ∷ name_of names lock.owner ∷ due_words lock.due) ∷ []) lock []

-- a ledger, its fragments, its task and the task's lock
abbrev pub ledger_lines : List (List ℕ) → Ledger → List (List ℕ)
ledger_lines names g =
    ledger_line g.id g.metadata
    ∷ (fragment_lines names g.metadata ++ (task_lines names g.task ++ lock_lines names g.lock))

-- the clock, whether AutoRecovery is disabled, the bookies and the ledgers, in picture order
abbrev pub report : Cluster → List (List ℕ)
report s =
    clock_line s ∷ (autorecovery_lines s.parts.scalars.enabled
    ++ (map (λ place. bookie_line s place.0 place.1) (enumerate_from 0 s.names)
    ++ flat_map (ledger_lines s.names) s.parts.ledgers))

-- The survey

-- how many members of a fragment are not registered, and how many of its entries can't be read
abbrev pub survey_line_text : SurveyLine → List ℕ
survey_line_text line =
    spaced (codes "ledger" ∷ decimal line.ledger ∷ codes "fragment" ∷ decimal line.fragment ∷ codes "down"
    ∷ decimal line.down ∷ codes "lost" ∷ option_map_or decimal line.lost (codes "-") ∷ [])
