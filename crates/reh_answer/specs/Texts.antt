-- What is printed of a stop. Each line ends with its LF.
use Rattle.std.specs.Prelude.{ℕ, ◌+◌, ◌-◌, Bool, ◌&&◌, ◌==◌, nat_lt, if◌then◌else◌, List, [], ◌∷◌, ◌++◌, map, Option, None, Some}
use Rattle.std.specs.Prelude.{flat_map, length, replicate, slice_get, unwrap_or, string_bytes, codes}
use Rattle.std.specs.Fmt.{decimal}
use Rattle.reh_census.specs.declared.answers.Answer.{Answer}
use Rattle.reh_census.specs.declared.answers.Answer.TheVariants.{Yes, No, Unknown, UnknownDisks, NotJudged}
use Rattle.reh_census.specs.declared.answers.Numbers.{Numbers}
use Rattle.reh_census.specs.declared.answers.Rule.{Rule}
use Rattle.reh_census.specs.declared.answers.Rule.TheVariants.{Readable, Kept, Recoverable, Writable, Replaceable}
use Rattle.reh_census.specs.declared.questions.Keep.{Keep}
use Rattle.reh_census.specs.declared.questions.Keep.TheVariants.{AckQuorum, Copies, AckLessOne}
use Rattle.reh_census.specs.declared.questions.Question.{Question}
use Rattle.reh_census.specs.Striping.{range}
use Rattle.reh_answer.specs.declared.against.Against.{Against}
use Rattle.reh_answer.specs.declared.facts.Facts.{Facts}
use Rattle.reh_answer.specs.declared.nouns.Noun.{Noun}
use Rattle.reh_answer.specs.declared.unasked.Unasked.{Unasked}
use Rattle.reh_answer.specs.declared.nouns.Noun.TheVariants.{Entry, Ledger, OpenLedger, Fragment}

-- Numbers of things

-- the word for one, or for more
abbrev pub noun_word : Noun → Bool → List ℕ
noun_word Entry one = if one then codes "entry" else codes "entries"
noun_word Ledger one = if one then codes "ledger" else codes "ledgers"
noun_word OpenLedger one = if one then codes "open ledger" else codes "open ledgers"
noun_word Fragment one = if one then codes "fragment" else codes "fragments"

abbrev pub amount : ℕ → Noun → List ℕ
amount number noun = decimal number ++ (codes " " ++ noun_word noun (number == 1))

abbrev pub whose : ℕ → List ℕ
whose number = if number == 1 then codes "its" else codes "their"

abbrev pub has : ℕ → List ℕ
has number = if number == 1 then codes "has" else codes "have"

abbrev pub were : ℕ → List ℕ
were number = if number == 1 then codes "was" else codes "were"

-- What was judged, and how many copies entries have

abbrev pub judged_line : Facts → List ℕ
judged_line facts =
    codes "judged "
    ++ (amount facts.judged.ledgers Ledger
    ++ (codes ", "
    ++ (amount facts.entries Entry
    ++ (codes ", "
    ++ (decimal facts.judged.assumed ++ (codes " assumed, " ++ (decimal facts.unknown ++ codes " unknown\n")))))))

-- a number after a space, at the right end of nine places
abbrev pub cell : ℕ → List ℕ
cell number = codes " " ++ (replicate (8 - length (decimal number)) 32 ++ decimal number)

abbrev pub row : List ℕ → List ℕ → List ℕ
row label numbers = label ++ (flat_map cell numbers ++ codes "\n")

abbrev pub table_text : Facts → List ℕ
table_text facts =
    row (codes "copies     ") (range 0 (length facts.copies_now))
    ++ (row (codes "now        ") facts.copies_now ++ row (codes "without    ") facts.copies_without)

-- The numbers of the rules

-- that of the last rule, where bookies go for good
abbrev pub replaceable_words : ℕ → Bool → List ℕ
replaceable_words number for_good = if for_good then codes ", replaceable " ++ decimal number else []

abbrev pub rules_words : Numbers → List ℕ
rules_words numbers =
    codes "rules              readable "
    ++ (decimal numbers.readable.no
    ++ (codes ", kept "
    ++ (decimal numbers.kept.no
    ++ (codes ", recoverable " ++ (decimal numbers.recoverable ++ (codes ", writable " ++ decimal numbers.writable))))))

abbrev pub rules_line : Numbers → Bool → List ℕ
rules_line numbers for_good = rules_words numbers ++ (replaceable_words numbers.replaceable for_good ++ codes "\n")

-- a number, where there is one
abbrev pub some_words : List ℕ → ℕ → List ℕ
some_words label number = if number == 0 then [] else label ++ decimal number

-- whether all is told of all entries, each has as many known copies as are to be kept or no disk goes, and all ledgers were
-- judged
abbrev pub is_all_known : Facts → Bool
is_all_known facts = (facts.unknown == 0) && ((facts.numbers.disks == 0) && (facts.numbers.not_judged == 0))

abbrev pub unknown_words : Numbers → List ℕ
unknown_words numbers =
    codes "unknown            readable "
    ++ (decimal numbers.readable.unknown ++ (codes ", kept " ++ decimal numbers.kept.unknown))

abbrev pub unknown_numbers : Numbers → List ℕ
unknown_numbers numbers =
    unknown_words numbers
    ++ (some_words (codes ", disks ") numbers.disks
    ++ (some_words (codes ", not judged ") numbers.not_judged ++ codes "\n"))

-- what is unknown, where something is
abbrev pub unknown_line : Facts → List ℕ
unknown_line facts = if is_all_known facts then [] else unknown_numbers facts.numbers

-- What speaks against the stop, and notes

-- how many of the ledger's entries do, where it is entries
abbrev pub entries_words : ℕ → List ℕ
entries_words number = if number == 0 then [] else amount number Entry ++ codes ", "

abbrev pub against_line : Against → List ℕ
against_line against =
    codes "ledger "
    ++ (decimal against.ledger
    ++ (codes ": " ++ (entries_words against.entries ++ (string_bytes against.cause ++ codes "\n"))))

-- the bookie's name, or its number where the names have none for it
abbrev pub name_of : List (List ℕ) → ℕ → List ℕ
name_of names bookie = unwrap_or (slice_get names bookie) (codes "bookie " ++ decimal bookie)

abbrev pub note_if : Bool → List ℕ → List (List ℕ)
note_if applies note = if applies then note ∷ [] else []

abbrev pub unreadable_note : ℕ → List ℕ
unreadable_note number = amount number Entry ++ codes " can't be read already, with or without this stop"

abbrev pub pause_note : List ℕ
pause_note = codes "writers pause until they have changed their ensembles"

-- when the oldest input was taken, if each tells its time
abbrev pub time_words : Option (List ℕ) → List ℕ
time_words None = []
time_words (Some time) = codes " (" ++ (time ++ codes ")")

abbrev pub new_ledger_note : Option (List ℕ) → List ℕ
new_ledger_note taken =
    codes "a ledger created since the input was taken"
    ++ (time_words taken
    ++ codes " may have all its copies on these bookies: make them read-only, take a new input, ask again")

abbrev pub racks_note : List ℕ
racks_note = codes "--min-racks asks nothing here: no ledger is open, and --ensemble is not given"

abbrev pub racks_now_note : List ℕ
racks_now_note =
    codes "the bookies that can be written to stand in too few racks for --min-racks already, with or without this stop"

abbrev pub ensemble_now_note : List ℕ
ensemble_now_note =
    codes "new ledgers of the size that --ensemble gives find too few bookies already, with or without this stop"

abbrev pub writers_note : List ℕ
writers_note = codes "--ensemble and --min-racks ask nothing where --allow-blocked-writers is given"

-- those on words that ask nothing
abbrev pub unasked_notes : Unasked → List (List ℕ)
unasked_notes unasked =
    note_if unasked.racks racks_note
    ++ (note_if unasked.racks_now racks_now_note
    ++ (note_if unasked.ensemble_now ensemble_now_note ++ note_if unasked.writers writers_note))

-- those that apply, where the bookies have these names, and the oldest input was taken then
abbrev pub notes_of : Facts → List (List ℕ) → Option (List ℕ) → List (List ℕ)
notes_of facts names taken =
    map (λ b. name_of names b ++ codes " is not registered") facts.unregistered
    ++ (note_if (nat_lt 0 facts.unreadable) (unreadable_note facts.unreadable)
    ++ (note_if facts.writers_pause pause_note
    ++ (note_if facts.may_hold_a_new_ledger (new_ledger_note taken) ++ unasked_notes facts.unasked)))

abbrev pub note_line : List ℕ → List ℕ
note_line note = codes "note: " ++ (note ++ codes "\n")

-- The verdict

-- how many copies are asked for
abbrev pub asked : Keep → ℕ → List ℕ
asked AckQuorum number = whose number ++ codes " ack quorum's copies"
asked (Copies copies) number = decimal copies ++ codes " copies"
asked AckLessOne number = codes "one less than " ++ (whose number ++ codes " ack quorum's copies")

-- what is said where the stop is a yes with `--keep 1`
abbrev pub hint : Bool → List ℕ
hint keep_1_allows = if keep_1_allows then codes " (--keep 1 allows it)" else []

-- new ledgers find no ensemble, and so many others
abbrev pub new_ledgers_words : ℕ → List ℕ
new_ledgers_words others =
    if others == 0 then codes "new ledgers would find no ensemble of the size asked for"
    else amount others OpenLedger ++ codes " would find no ensemble to go on with, and new ledgers none of the size asked for"

-- so many find no ensemble, of which one stands for new ledgers, or none
abbrev pub no_ensemble : Bool → ℕ → List ℕ
no_ensemble new_ledgers number =
    if new_ledgers then new_ledgers_words (number - 1)
    else amount number OpenLedger ++ codes " would find no ensemble to go on with"

abbrev pub no_words : Bool → Bool → Keep → Rule → ℕ → List ℕ
no_words new_ledgers keep_1_allows keep Readable number = amount number Entry ++ codes " could not be read"
no_words new_ledgers keep_1_allows keep Kept number =
    amount number Entry
    ++ (codes " would have fewer than " ++ (asked keep number ++ (codes ", and fewer than now" ++ hint keep_1_allows)))
no_words new_ledgers keep_1_allows keep Recoverable number =
    amount number Ledger
    ++ (codes " could not be recovered, or " ++ (whose number ++ codes " last entries would have fewer copies than now"))
no_words new_ledgers keep_1_allows keep Writable number = no_ensemble new_ledgers number
no_words new_ledgers keep_1_allows keep Replaceable number =
    amount number Fragment ++ (codes " would find no bookies for " ++ (whose number ++ codes " places"))

-- what a rule counts
abbrev pub noun_of : Rule → Noun
noun_of Readable = Entry
noun_of Kept = Entry
noun_of Recoverable = Ledger
noun_of Writable = OpenLedger
noun_of Replaceable = Fragment

abbrev pub could : Keep → Rule → ℕ → List ℕ
could keep Readable number = codes "be lost"
could keep Kept number = codes "have fewer than " ++ (asked keep number ++ codes ", and fewer than now")
could keep Recoverable number = codes "break a rule"
could keep Writable number = codes "break a rule"
could keep Replaceable number = codes "break a rule"

abbrev pub may_words : Keep → Rule → ℕ → List ℕ
may_words keep rule number =
    amount number (noun_of rule)
    ++ (codes " could "
    ++ (could keep rule number ++ (codes ": nobody told what some of " ++ (whose number ++ codes " bookies hold"))))

abbrev pub disks_words : ℕ → List ℕ
disks_words number =
    amount number Entry
    ++ (codes " "
    ++ (has number
    ++ codes " fewer known copies than are to be kept, and a bookie that is down and goes for good may have more"))

abbrev pub not_judged_words : ℕ → ℕ → List ℕ
not_judged_words ledgers number =
    decimal number
    ++ (codes " of "
    ++ (decimal (ledgers + number) ++ (codes " ledgers " ++ (were number ++ codes " not judged"))))

abbrev pub answer_by : Bool → Bool → Keep → ℕ → Answer → List ℕ
answer_by new_ledgers keep_1_allows keep ledgers Yes = codes "yes"
answer_by new_ledgers keep_1_allows keep ledgers (No rule number) =
    codes "no, " ++ no_words new_ledgers keep_1_allows keep rule number
answer_by new_ledgers keep_1_allows keep ledgers (Unknown rule number) = codes "unknown, " ++ may_words keep rule number
answer_by new_ledgers keep_1_allows keep ledgers (UnknownDisks number) = codes "unknown, " ++ disks_words number
answer_by new_ledgers keep_1_allows keep ledgers (NotJudged number) = codes "unknown, " ++ not_judged_words ledgers number

abbrev pub answer_words : Facts → Keep → List ℕ
answer_words facts keep = answer_by facts.breaks_new_ledgers facts.keep_1_allows keep facts.judged.ledgers facts.answer

abbrev pub verdict_line : Facts → Question → List ℕ
verdict_line facts question =
    codes "ok-to-stop: " ++ (answer_words facts question.keep ++ codes "\n")

-- All lines

-- what was judged, the copies, the rules, what is unknown, what speaks against the stop, notes, and the verdict
abbrev pub text_of : Facts → Question → List (List ℕ) → List Against → Option (List ℕ) → List (List ℕ) → List ℕ
text_of facts question names against taken further =
    judged_line facts
    ++ (table_text facts
    ++ (rules_line facts.numbers question.for_good
    ++ (unknown_line facts
    ++ (flat_map against_line against
    ++ (flat_map note_line (notes_of facts names taken) ++ (flat_map note_line further ++ verdict_line facts question))))))

-- the exit status
abbrev pub status_number : Answer → ℕ
status_number Yes = 0
status_number (No rule number) = 8
status_number (Unknown rule number) = 9
status_number (UnknownDisks number) = 9
status_number (NotJudged number) = 9
