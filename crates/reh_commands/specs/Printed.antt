-- The line of a command: its verb and its words, with a space between each two.
use Rattle.std.specs.Prelude.{ℕ, ◌^◌, ◌==◌, ◌&&◌, not, Bool, true, false, nat_lt, nat_le, List, [], ◌∷◌, length, map}
use Rattle.std.specs.Prelude.{Option, Some, None, slice_get, if◌then◌else◌}
use Rattle.std.specs.Fmt.{decimal}
use Rattle.std.specs.List.{list_all}
use Rattle.std.specs.Option.{option_and_then, option_map_or}
use Rattle.reh_types.specs.declared.limits.TheConstants.{MAX_LINE_BYTES}
use Rattle.reh_types.specs.declared.moves.Event.{Event}
use Rattle.reh_types.specs.declared.moves.Event.TheVariants.{Lose, Join, Audit, Acquire, Release, Finish, Expire}
use Rattle.reh_types.specs.declared.moves.Event.TheVariants.{Grace, Tick, Roll, Fence, Seal, Copy, Swap, Disable, Enable}
use Rattle.reh_types.specs.declared.moves.Move.TheVariants.{Do, Post, Undo, Redo, Look}
use Rattle.reh_commands.specs.declared.commands.Command.{Command}
use Rattle.reh_commands.specs.declared.commands.Command.TheVariants.{Make, Checkout, Spend, Discard, Report, Survey}
use Rattle.reh_commands.specs.declared.verbs.Verb.{Verb}
use Rattle.reh_commands.specs.declared.verbs.Verb.TheVariants as verb
use Rattle.reh_commands.specs.declared.words.Kind.{Kind}
use Rattle.reh_commands.specs.declared.words.Kind.TheVariants.{Name, Number}
use Rattle.reh_commands.specs.declared.words.Arguments.{Arguments}
use Rattle.reh_commands.specs.Script.{form_of, kind_of, no_arguments, with_bookie, with_number}
use Rattle.reh_commands.specs.Texts.{name_of, spaced}

-- What a command is made of: its verb, and what the words after the verb name

-- a verb without words
abbrev pub alone : Verb → Verb × Arguments
alone v = (v, no_arguments)

-- and a bookie
abbrev pub of_bookie : Verb → ℕ → Verb × Arguments
of_bookie v bookie = (v, with_bookie bookie no_arguments)

-- a worker and a ledger
abbrev pub of_task : Verb → ℕ → ℕ → Verb × Arguments
of_task v worker ledger = (v, with_bookie worker (with_number ledger no_arguments))

-- a ledger, an index of its last ensemble, and the bookie that takes it
abbrev pub of_roll : ℕ → ℕ → ℕ → Verb × Arguments
of_roll ledger index bookie = (verb.Roll, with_bookie bookie (with_number ledger (with_number index no_arguments)))

-- a worker, and a place of a fragment at a version of the ledger's metadata
abbrev pub of_place : Verb → ℕ → ℕ → ℕ → ℕ → ℕ → Verb × Arguments
of_place v worker ledger fragment index version =
    (v, record { bookie = worker; first = ledger; second = fragment; third = index; fourth = version })

-- what an event is made of
abbrev pub event_parts : Event → Verb × Arguments
event_parts (Lose bookie) = of_bookie verb.Lose bookie
event_parts (Join bookie) = of_bookie verb.Join bookie
event_parts Audit = alone verb.Audit
event_parts (Acquire worker ledger) = of_task verb.Acquire worker ledger
event_parts (Release worker ledger) = of_task verb.Release worker ledger
event_parts (Finish worker ledger) = of_task verb.Finish worker ledger
event_parts (Expire worker) = of_bookie verb.Expire worker
event_parts (Grace worker ledger) = of_task verb.Grace worker ledger
event_parts (Tick ticks) = (verb.Tick, with_number ticks no_arguments)
event_parts (Roll ledger index bookie) = of_roll ledger index bookie
event_parts (Fence worker ledger) = of_task verb.Fence worker ledger
event_parts (Seal worker ledger) = of_task verb.Seal worker ledger
event_parts (Copy worker ledger fragment index version) = of_place verb.Copy worker ledger fragment index version
event_parts (Swap worker ledger fragment index version) = of_place verb.Swap worker ledger fragment index version
event_parts Disable = alone verb.Disable
event_parts Enable = alone verb.Enable

-- what a command is made of; no script has a verb for the post of a content
abbrev pub command_parts : Command → Option (Verb × Arguments)
command_parts (Make (Do event)) = Some (event_parts event)
command_parts (Make (Post content)) = None
command_parts (Make Undo) = Some (alone verb.Undo)
command_parts (Make Redo) = Some (alone verb.Redo)
command_parts (Make Look) = Some (alone verb.Clock)
command_parts (Checkout aim) = Some (of_place verb.Checkout aim.worker aim.ledger aim.fragment aim.index 0)
command_parts Spend = Some (alone verb.Spend)
command_parts Discard = Some (alone verb.Discard)
command_parts Report = Some (alone verb.Report)
command_parts Survey = Some (alone verb.Survey)

-- Its words

-- whether a byte can be one of a word: it is above a space's, so it's no tab and no line end
abbrev pub is_letter : ℕ → Bool
is_letter b = nat_lt 32 b

-- whether a text can be a word: it isn't empty, and each byte can be one of a word
abbrev pub is_word : List ℕ → Bool
is_word text = not (length text == 0) && list_all is_letter text

-- the numbers after the first
abbrev pub without_number : Arguments → Arguments
without_number a =
    record { bookie = a.bookie; first = a.second; second = a.third; third = a.fourth; fourth = 0 }

-- whether words of these kinds can name it: the bookie has a name that can be a word, and numbers have at most 13 digits
abbrev pub can_name : List (List ℕ) → List Kind → Arguments → Bool
can_name names [] a = true
can_name names (Name ∷ kinds) a = option_map_or is_word (slice_get names a.bookie) false && can_name names kinds a
can_name names (Number ∷ kinds) a = nat_lt a.first (10 ^ 13) && can_name names kinds (without_number a)

-- these words
abbrev pub words_for : List (List ℕ) → List Kind → Arguments → List (List ℕ)
words_for names [] a = []
words_for names (Name ∷ kinds) a = name_of names a.bookie ∷ words_for names kinds a
words_for names (Number ∷ kinds) a = decimal a.first ∷ words_for names kinds (without_number a)

-- Its line

abbrev pub kinds_of : Verb → List Kind
kinds_of v = map kind_of (form_of v).roles

abbrev pub line_text : List (List ℕ) → Verb → Arguments → List ℕ
line_text names v a = spaced ((form_of v).name ∷ words_for names (kinds_of v) a)

-- if words can name what the arguments do, and a line has room for them
abbrev pub line_for : List (List ℕ) → Verb → Arguments → Option (List ℕ)
line_for names v a =
    if can_name names (kinds_of v) a && nat_le (length (line_text names v a)) MAX_LINE_BYTES then Some (line_text names v a)
    else None

-- with the bookies of these names, the line that asks for a command, if one can
abbrev pub command_text : List (List ℕ) → Command → Option (List ℕ)
command_text names command = option_and_then (λ parts. line_for names parts.0 parts.1) (command_parts command)
