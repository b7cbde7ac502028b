-- What is printed of waves and risks. Each line ends with its LF.
use Rattle.std.specs.Prelude.{ℕ, Bool, ◌+◌, ◌==◌, nat_lt, if◌then◌else◌, List, [], ◌∷◌, ◌++◌, Option, None, Some, String, codes, flat_map, length}
use Rattle.std.specs.Fmt.{decimal}
use Rattle.std.specs.declared.alloc.Global.{Global}
use Rattle.reh_census.specs.declared.answers.Answer.{Answer}
use Rattle.reh_census.specs.declared.answers.Answer.TheVariants.{Yes, No, Unknown, UnknownDisks, NotJudged}
use Rattle.reh_census.specs.declared.answers.Broken.{Broken}
use Rattle.reh_census.specs.declared.answers.Numbers.{Numbers}
use Rattle.reh_census.specs.declared.answers.Rule.{Rule}
use Rattle.reh_census.specs.declared.answers.Rule.TheVariants.{Readable, Kept, Recoverable, Writable, Replaceable}
use Rattle.reh_waves.specs.Orders.{name_at}
use Rattle.reh_waves.specs.declared.losses.Loss.{Loss}
use Rattle.reh_waves.specs.declared.losses.Lost.{Lost}
use Rattle.reh_waves.specs.declared.losses.Lost.TheVariants.{Bookie, Rack, Pair}
use Rattle.reh_waves.specs.declared.risk.Risk.{Risk}
use Rattle.reh_waves.specs.declared.waves.Alone.{Alone}
use Rattle.reh_waves.specs.declared.waves.Round.{Round}
use Rattle.reh_waves.specs.declared.waves.Waves.{Waves}

-- What speaks against a stop

-- how many break a rule, after the number: of one, and of more
abbrev pub no_words : Rule → Bool → List ℕ
no_words Readable one = if one then codes " entry could not be read" else codes " entries could not be read"
no_words Kept one =
    if one then codes " entry would have fewer copies than are to be kept, and fewer than now"
    else codes " entries would have fewer copies than are to be kept, and fewer than now"
no_words Recoverable one =
    if one then codes " ledger could not be recovered, or its last entries would have fewer copies than now"
    else codes " ledgers could not be recovered, or their last entries would have fewer copies than now"
no_words Writable one =
    if one then codes " ledger, open or new, would find no ensemble" else codes " ledgers, open or new, would find no ensemble"
no_words Replaceable one =
    if one then codes " fragment would find no bookies for its places" else codes " fragments would find no bookies for their places"

-- how many more may break it
abbrev pub readable_words : Bool → List ℕ
readable_words one =
    if one then codes " entry could be lost: nobody told what some of its bookies hold"
    else codes " entries could be lost: nobody told what some of their bookies hold"

abbrev pub other_words : Bool → List ℕ
other_words one =
    if one then codes " entry could have fewer copies than are to be kept: nobody told what some of its bookies hold"
    else codes " entries could have fewer copies than are to be kept: nobody told what some of their bookies hold"

abbrev pub unknown_words : Rule → Bool → List ℕ
unknown_words Readable one = readable_words one
unknown_words Kept one = other_words one
unknown_words Recoverable one = other_words one
unknown_words Writable one = other_words one
unknown_words Replaceable one = other_words one

abbrev pub disk_words : Bool → List ℕ
disk_words one =
    if one then codes " entry has no known copy, and a disk that would go may have one"
    else codes " entries have no known copy, and disks that would go may have one"

abbrev pub judged_words : Bool → List ℕ
judged_words one = if one then codes " ledger was not judged" else codes " ledgers were not judged"

abbrev pub reason_text : Answer → List ℕ
reason_text Yes = codes "yes"
reason_text (No rule count) = decimal count ++ no_words rule (count == 1)
reason_text (Unknown rule count) = codes "unknown, " ++ (decimal count ++ unknown_words rule (count == 1))
reason_text (UnknownDisks count) = codes "unknown, " ++ (decimal count ++ disk_words (count == 1))
reason_text (NotJudged count) = codes "unknown, " ++ (decimal count ++ judged_words (count == 1))

-- Waves

-- names, with a space before each
abbrev pub spaced_one : List (String Global) → ℕ → List ℕ
spaced_one names b = codes " " ++ name_at names b

abbrev pub spaced : List (String Global) → List ℕ → List ℕ
spaced names bookies = flat_map (spaced_one names) bookies

-- the line of the wave of this number
abbrev pub round_text : List (String Global) → ℕ → Round → List ℕ
round_text names number round = codes "wave " ++ (decimal number ++ (codes ":" ++ (spaced names round.bookies.items ++ codes "\n")))

-- the lines of waves, from this number on
abbrev pub rounds_text : List (String Global) → ℕ → List Round → List ℕ
rounds_text names number [] = []
rounds_text names number (round ∷ rounds) = round_text names number round ++ rounds_text names (number + 1) rounds

abbrev pub alone_text : List (String Global) → Alone → List ℕ
alone_text names alone =
    codes "alone " ++ (name_at names alone.bookie ++ (codes ": " ++ (reason_text alone.answer ++ codes "\n")))

abbrev pub all_alone_text : List (String Global) → List Alone → List ℕ
all_alone_text names alone = flat_map (alone_text names) alone

-- where there are more waves than one
abbrev pub note_text : ℕ → List ℕ
note_text count =
    if nat_lt 1 count
    then codes "note: only the first wave is judged by what is known now: take a new input and ask again before each further one, and keep AutoRecovery disabled meanwhile\n"
    else []

abbrev pub waves_text : List (String Global) → Waves → List ℕ
waves_text names waves =
    rounds_text names 1 waves.rounds.items
    ++ (all_alone_text names waves.alone.items ++ note_text (length waves.rounds.items))

-- Risk

abbrev pub broken_text : Broken → List ℕ
broken_text broken =
    decimal broken.no ++ (if nat_lt 0 broken.unknown then codes " unknown " ++ decimal broken.unknown else [])

-- a number that is shown where it isn't 0
abbrev pub more_text : List ℕ → ℕ → List ℕ
more_text words count = if nat_lt 0 count then words ++ decimal count else []

-- of entries, of ledgers and writers, and what is rarely asked
abbrev pub entries_text : Numbers → List ℕ
entries_text numbers =
    codes "readable " ++ (broken_text numbers.readable ++ (codes ", kept " ++ broken_text numbers.kept))

abbrev pub ledgers_text : Numbers → List ℕ
ledgers_text numbers =
    codes ", recoverable " ++ (decimal numbers.recoverable ++ (codes ", writable " ++ decimal numbers.writable))

abbrev pub rare_text : Numbers → List ℕ
rare_text numbers =
    more_text (codes ", replaceable ") numbers.replaceable ++ more_text (codes ", disks ") numbers.disks

abbrev pub rules_text : Numbers → List ℕ
rules_text numbers = entries_text numbers ++ (ledgers_text numbers ++ rare_text numbers)

-- what is lost: a bookie, a rack, two bookies
abbrev pub lost_text : List (String Global) → List (String Global) → Lost → List ℕ
lost_text names racks (Bookie lost) = codes "bookie " ++ name_at names lost
lost_text names racks (Rack rack) = codes "rack " ++ name_at racks rack
lost_text names racks (Pair one other) = codes "pair " ++ (name_at names one ++ (codes " " ++ name_at names other))

abbrev pub loss_text : List (String Global) → List (String Global) → Loss → List ℕ
loss_text names racks loss = lost_text names racks loss.lost ++ (codes " " ++ (rules_text loss.numbers ++ codes "\n"))

abbrev pub losses_text : List (String Global) → List (String Global) → List Loss → List ℕ
losses_text names racks losses = flat_map (loss_text names racks) losses

-- where ledgers were not judged
abbrev pub unjudged_text : ℕ → List ℕ
unjudged_text count =
    if nat_lt 0 count then codes "note: " ++ (decimal count ++ (judged_words (count == 1) ++ codes "\n")) else []

abbrev pub fewest_line : Option ℕ → List ℕ
fewest_line None = codes "fewest copies none\n"
fewest_line (Some copies) = codes "fewest copies " ++ (decimal copies ++ codes "\n")

abbrev pub least_line : Option ℕ → List ℕ
least_line None = codes "fewest copies in ledgers not closed none\n"
least_line (Some copies) = codes "fewest copies in ledgers not closed " ++ (decimal copies ++ codes "\n")

abbrev pub fewest_text : Risk → List ℕ
fewest_text risk = fewest_line risk.fewest_copies ++ least_line risk.fewest_in_tails

abbrev pub all_losses_text : List (String Global) → List (String Global) → Risk → List ℕ
all_losses_text names racks risk =
    losses_text names racks risk.bookies.items
    ++ (losses_text names racks risk.racks.items ++ losses_text names racks risk.pairs.items)

abbrev pub risk_text : List (String Global) → List (String Global) → Risk → List ℕ
risk_text names racks risk = fewest_text risk ++ (all_losses_text names racks risk ++ unjudged_text risk.not_judged)
