-- The script language: the words of a line, and the command that they make.
use Rattle.std.specs.Prelude.{ℕ, ◌+◌, ◌-◌, ◌*◌, ◌==◌, ◌&&◌, ◌||◌, not, Bool, true, false, nat_eq, nat_lt, nat_le}
use Rattle.std.specs.Prelude.{List, [], ◌∷◌, length, filter, find, map, Option, Some, None, Result, Ok, Err, is_some}
use Rattle.std.specs.Prelude.{unwrap_or, if◌then◌else◌, codes}
use Rattle.std.specs.List.{slice_split, starts_with}
use Rattle.std.specs.Str.{bytes_eq, all_ascii_digits}
use Rattle.std.specs.Str.Lines.{strip_carriage_return}
use Rattle.reh_types.specs.declared.limits.TheConstants.{MAX_LINE_BYTES}
use Rattle.reh_types.specs.declared.moves.Event.{Event}
use Rattle.reh_types.specs.declared.moves.Event.TheVariants.{Lose, Join, Audit, Acquire, Release, Finish, Expire}
use Rattle.reh_types.specs.declared.moves.Event.TheVariants.{Grace, Tick, Roll, Fence, Seal, Copy, Swap, Disable, Enable}
use Rattle.reh_types.specs.declared.moves.Move.TheVariants.{Do, Undo, Redo, Look}
use Rattle.reh_types.specs.declared.names.Aim.{Aim}
use Rattle.reh_model.specs.Cluster.{bookie_named}
use Rattle.reh_commands.specs.declared.commands.Command.{Command}
use Rattle.reh_commands.specs.declared.commands.Command.TheVariants.{Make, Checkout, Spend, Discard, Report, Survey}
use Rattle.reh_commands.specs.declared.commands.LineFault.{LineFault}
use Rattle.reh_commands.specs.declared.commands.LineFault.TheVariants.{TooLong, UnknownCommand, BadWords, UnknownName}
use Rattle.reh_commands.specs.declared.verbs.Verb.{Verb}
use Rattle.reh_commands.specs.declared.verbs.Verb.TheVariants as verb
use Rattle.reh_commands.specs.declared.words.Role.{Role}
use Rattle.reh_commands.specs.declared.words.Role.TheVariants as role
use Rattle.reh_commands.specs.declared.words.Kind.{Kind}
use Rattle.reh_commands.specs.declared.words.Kind.TheVariants.{Name, Number}
use Rattle.reh_commands.specs.declared.words.Arguments.{Arguments}

-- Words

-- spaces and tabs part words, and nothing else does
abbrev pub is_blank : ℕ → Bool
is_blank b = b == 32 || b == 9

-- the words of a line: its parts between spaces and tabs that aren't empty
abbrev pub words_of : List ℕ → List (List ℕ)
words_of line = filter (λ part. not (length part == 0)) (slice_split is_blank line)

-- the number that digits stand for, going on from another
abbrev pub read_on : ℕ → List ℕ → ℕ
read_on n [] = n
read_on n (c ∷ cs) = read_on (n * 10 + (c - 48)) cs

-- the number of 1 to 13 decimal digits
abbrev pub number_of : List ℕ → Option ℕ
number_of word =
    if nat_lt 0 (length word) && nat_le (length word) 13 && all_ascii_digits word then Some (read_on 0 word) else None

-- The words after a verb: at most one names a bookie, and at most four are numbers

-- nothing is named
abbrev pub no_arguments : Arguments
no_arguments = record { bookie = 0; first = 0; second = 0; third = 0; fourth = 0 }

-- a bookie before the others
abbrev pub with_bookie : ℕ → Arguments → Arguments
with_bookie bookie a = record a { bookie = bookie }

-- a number before the others
abbrev pub with_number : ℕ → Arguments → Arguments
with_number number a =
    record { bookie = a.bookie; first = number; second = a.first; third = a.second; fourth = a.third }

-- whether there are as many words as kinds, and a number in each number's place
abbrev pub are_formed : List Kind → List (List ℕ) → Bool
are_formed [] [] = true
are_formed [] (word ∷ words) = false
are_formed (kind ∷ kinds) [] = false
are_formed (Number ∷ kinds) (word ∷ words) = is_some (number_of word) && are_formed kinds words
are_formed (Name ∷ kinds) (word ∷ words) = are_formed kinds words

-- whether there is a bookie's name in each bookie's place
abbrev pub are_known : List (List ℕ) → List Kind → List (List ℕ) → Bool
are_known names (Name ∷ kinds) (word ∷ words) =
    is_some (bookie_named names word) && are_known names kinds words
are_known names (Number ∷ kinds) (word ∷ words) = are_known names kinds words
are_known names kinds words = true

-- what words of these kinds name
abbrev pub named_by : List (List ℕ) → List Kind → List (List ℕ) → Arguments
named_by names (Name ∷ kinds) (word ∷ words) =
    with_bookie (unwrap_or (bookie_named names word) 0) (named_by names kinds words)
named_by names (Number ∷ kinds) (word ∷ words) =
    with_number (unwrap_or (number_of word) 0) (named_by names kinds words)
named_by names kinds words = no_arguments

-- what the words name, if they are of these kinds; the form is judged over all of them before any name is
abbrev pub arguments_of : List (List ℕ) → List Kind → List (List ℕ) → Result Arguments LineFault
arguments_of names kinds words =
    if not (are_formed kinds words) then Err BadWords
    else (if not (are_known names kinds words) then Err UnknownName
    else Ok (named_by names kinds words))

-- Commands

-- what a word of this role has to be
abbrev pub kind_of : Role → Kind
kind_of role.Bookie = Name
kind_of role.Worker = Name
kind_of role.Ledger = Number
kind_of role.Fragment = Number
kind_of role.Index = Number
kind_of role.Version = Number
kind_of role.Ticks = Number

-- a command: its verb's name, the roles of the words after it, and what it makes of what they name
pub record Form : Type 0 where
  pub name : List ℕ
  pub roles : List Role
  pub make : Arguments → Command

abbrev pub form : List ℕ → List Role → (Arguments → Command) → Form
form name roles make = record { name = name; roles = roles; make = make }

abbrev pub event : Event → Command
event e = Make (Do e)

-- the place of a fragment that a worker aims at
abbrev pub aim_of : Arguments → Aim
aim_of a = record { worker = a.bookie; ledger = a.first; fragment = a.second; index = a.third }

-- the words of a worker and a ledger with a task
abbrev pub task : List Role
task = role.Worker ∷ role.Ledger ∷ []

-- and those of an index of a fragment's ensemble after them
abbrev pub place : List Role
place = role.Worker ∷ role.Ledger ∷ role.Fragment ∷ role.Index ∷ []

-- and the version of the ledger's metadata after these
abbrev pub member : List Role
member = role.Worker ∷ role.Ledger ∷ role.Fragment ∷ role.Index ∷ role.Version ∷ []

-- the command of each verb
abbrev pub form_of : Verb → Form
form_of verb.Lose = form (codes "lose") (role.Bookie ∷ []) (λ a. event (Lose a.bookie))
form_of verb.Join = form (codes "join") (role.Bookie ∷ []) (λ a. event (Join a.bookie))
form_of verb.Audit = form (codes "audit") [] (λ a. event Audit)
form_of verb.Acquire = form (codes "acquire") task (λ a. event (Acquire a.bookie a.first))
form_of verb.Release = form (codes "release") task (λ a. event (Release a.bookie a.first))
form_of verb.Finish = form (codes "finish") task (λ a. event (Finish a.bookie a.first))
form_of verb.Expire = form (codes "expire") (role.Worker ∷ []) (λ a. event (Expire a.bookie))
form_of verb.Grace = form (codes "grace") task (λ a. event (Grace a.bookie a.first))
form_of verb.Tick = form (codes "tick") (role.Ticks ∷ []) (λ a. event (Tick a.first))
form_of verb.Roll = form (codes "roll") (role.Ledger ∷ role.Index ∷ role.Bookie ∷ [])
    (λ a. event (Roll a.first a.second a.bookie))
form_of verb.Fence = form (codes "fence") task (λ a. event (Fence a.bookie a.first))
form_of verb.Seal = form (codes "seal") task (λ a. event (Seal a.bookie a.first))
form_of verb.Copy = form (codes "copy") member (λ a. event (Copy a.bookie a.first a.second a.third a.fourth))
form_of verb.Swap = form (codes "swap") member (λ a. event (Swap a.bookie a.first a.second a.third a.fourth))
form_of verb.Disable = form (codes "disable") [] (λ a. event Disable)
form_of verb.Enable = form (codes "enable") [] (λ a. event Enable)
form_of verb.Undo = form (codes "undo") [] (λ a. Make Undo)
form_of verb.Redo = form (codes "redo") [] (λ a. Make Redo)
form_of verb.Clock = form (codes "clock") [] (λ a. Make Look)
form_of verb.Checkout = form (codes "checkout") place (λ a. Checkout (aim_of a))
form_of verb.Spend = form (codes "spend") [] (λ a. Spend)
form_of verb.Discard = form (codes "discard") [] (λ a. Discard)
form_of verb.Report = form (codes "report") [] (λ a. Report)
form_of verb.Survey = form (codes "survey") [] (λ a. Survey)

-- all verbs
unfoldable pub verbs : List Verb
verbs =
    verb.Lose ∷ verb.Join ∷ verb.Audit ∷ verb.Acquire ∷ verb.Release ∷ verb.Finish ∷ verb.Expire ∷ verb.Grace
    ∷ verb.Tick ∷ verb.Roll ∷ verb.Fence ∷ verb.Seal ∷ verb.Copy ∷ verb.Swap ∷ verb.Disable ∷ verb.Enable ∷ verb.Undo
    ∷ verb.Redo ∷ verb.Clock ∷ verb.Checkout ∷ verb.Spend ∷ verb.Discard ∷ verb.Report ∷ verb.Survey ∷ []

-- the verb that a word names
abbrev pub verb_of : List ℕ → Option Verb
verb_of word = find (λ v. bytes_eq (form_of v).name word) verbs

-- the command that a form makes
abbrev pub made_by : Form → Result Arguments LineFault → Result Command LineFault
made_by f (Ok a) = Ok (f.make a)
made_by f (Err fault) = Err fault

-- what words ask for after a verb
abbrev pub command_by : List (List ℕ) → Option Verb → List (List ℕ) → Result Command LineFault
command_by names None words = Err UnknownCommand
command_by names (Some v) words = made_by (form_of v) (arguments_of names (map kind_of (form_of v).roles) words)

-- what words ask for; without a word, or where `#` begins the first one, there is no reply
abbrev pub command_of_words : List (List ℕ) → List (List ℕ) → Option (Result Command LineFault)
command_of_words names [] = None
command_of_words names (word ∷ words) =
    if starts_with nat_eq word (codes "#") then None else Some (command_by names (verb_of word) words)

-- what a line asks for, without the one CR at its end, or why it asks for nothing; None is a line without a reply
abbrev pub command_of_line : List (List ℕ) → List ℕ → Option (Result Command LineFault)
command_of_line names line =
    let bytes = strip_carriage_return line in
    if nat_lt MAX_LINE_BYTES (length bytes) then Some (Err TooLong)
    else command_of_words names (words_of bytes)
