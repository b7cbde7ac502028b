-- What is written of waves and risks as JSON: one object, and an LF.
use Rattle.std.specs.Prelude.{ℕ, ◌≤◌, ◌<◌, Bool, true, false, ◌==◌, ◌||◌, if◌then◌else◌, All, List, [], ◌∷◌, ◌++◌, Option, None, Some, String, codes, flat_map, string_bytes}
use Rattle.std.specs.Fmt.{decimal}
use Rattle.std.specs.declared.alloc.Global.{Global}
use Rattle.reh_census.specs.declared.answers.Answer.{Answer}
use Rattle.reh_census.specs.declared.answers.Answer.TheVariants.{Yes, No, Unknown, UnknownDisks, NotJudged}
use Rattle.reh_census.specs.declared.answers.Broken.{Broken}
use Rattle.reh_census.specs.declared.answers.Numbers.{Numbers}
use Rattle.reh_census.specs.declared.answers.Rule.{Rule}
use Rattle.reh_census.specs.declared.answers.Rule.TheVariants.{Readable, Kept, Recoverable, Writable, Replaceable}
use Rattle.reh_waves.specs.Orders.{name_at}
use Rattle.reh_waves.specs.declared.losses.Loss.{Loss}
use Rattle.reh_waves.specs.declared.losses.Lost.{Lost}
use Rattle.reh_waves.specs.declared.losses.Lost.TheVariants.{Bookie, Rack, Pair}
use Rattle.reh_waves.specs.declared.risk.Risk.{Risk}
use Rattle.reh_waves.specs.declared.waves.Alone.{Alone}
use Rattle.reh_waves.specs.declared.waves.Round.{Round}
use Rattle.reh_waves.specs.declared.waves.Waves.{Waves}

-- names that need no escape but for the quote and the backslash: of printable ASCII
abbrev pub ArePrintable : List (String Global) → Type 0
ArePrintable names = All (λ name. All (λ b. (32 ≤ b) × (b < 127)) (string_bytes name)) names

-- a byte of a string: the quote and the backslash have a backslash before them
abbrev pub escaped : ℕ → List ℕ
escaped b = (if b == 34 || b == 92 then 92 ∷ [] else []) ++ b ∷ []

abbrev pub quoted : List ℕ → List ℕ
quoted bytes = codes "\"" ++ (flat_map escaped bytes ++ codes "\"")

-- elements of a list, with a comma before each but the first
abbrev pub comma : Bool → List ℕ
comma is_first = if is_first then [] else codes ","

abbrev pub elements : {X : Type 0} → (X → List ℕ) → Bool → List X → List ℕ
elements json is_first [] = []
elements json is_first (x ∷ xs) = comma is_first ++ (json x ++ elements json false xs)

-- Waves

abbrev pub name_json : List (String Global) → ℕ → List ℕ
name_json names b = quoted (name_at names b)

abbrev pub round_json : List (String Global) → Round → List ℕ
round_json names round = codes "[" ++ (elements (name_json names) true round.bookies.items ++ codes "]")

abbrev pub rule_name : Rule → List ℕ
rule_name Readable = codes "\"readable\""
rule_name Kept = codes "\"kept\""
rule_name Recoverable = codes "\"recoverable\""
rule_name Writable = codes "\"writable\""
rule_name Replaceable = codes "\"replaceable\""

-- what the answer is, the rule that it names, and how often
abbrev pub answer_json : Answer → List ℕ
answer_json Yes = codes "\"verdict\":\"yes\",\"rule\":null,\"count\":0"
answer_json (No rule count) =
    codes "\"verdict\":\"no\",\"rule\":" ++ (rule_name rule ++ (codes ",\"count\":" ++ decimal count))
answer_json (Unknown rule count) =
    codes "\"verdict\":\"unknown\",\"rule\":" ++ (rule_name rule ++ (codes ",\"count\":" ++ decimal count))
answer_json (UnknownDisks count) = codes "\"verdict\":\"unknown\",\"rule\":\"disks\",\"count\":" ++ decimal count
answer_json (NotJudged count) = codes "\"verdict\":\"unknown\",\"rule\":\"judged\",\"count\":" ++ decimal count

abbrev pub alone_json : List (String Global) → Alone → List ℕ
alone_json names alone =
    codes "{\"bookie\":" ++ (name_json names alone.bookie ++ (codes "," ++ (answer_json alone.answer ++ codes "}")))

abbrev pub waves_json : List (String Global) → Waves → List ℕ
waves_json names waves =
    codes "{\"waves\":["
    ++ (elements (round_json names) true waves.rounds.items
    ++ (codes "],\"alone\":[" ++ (elements (alone_json names) true waves.alone.items ++ codes "]}\n")))

-- Risk

abbrev pub broken_json : Broken → List ℕ
broken_json broken = codes "{\"no\":" ++ (decimal broken.no ++ (codes ",\"unknown\":" ++ (decimal broken.unknown ++ codes "}")))

abbrev pub entries_json : Numbers → List ℕ
entries_json numbers =
    codes "\"readable\":" ++ (broken_json numbers.readable ++ (codes ",\"kept\":" ++ broken_json numbers.kept))

abbrev pub ledgers_json : Numbers → List ℕ
ledgers_json numbers =
    codes ",\"recoverable\":" ++ (decimal numbers.recoverable ++ (codes ",\"writable\":" ++ decimal numbers.writable))

abbrev pub rare_json : Numbers → List ℕ
rare_json numbers =
    codes ",\"replaceable\":" ++ (decimal numbers.replaceable ++ (codes ",\"disks\":" ++ decimal numbers.disks))

abbrev pub rules_json : Numbers → List ℕ
rules_json numbers =
    codes "\"rules\":{" ++ (entries_json numbers ++ (ledgers_json numbers ++ (rare_json numbers ++ codes "}")))

abbrev pub pair_json : List (String Global) → ℕ → ℕ → List ℕ
pair_json names one other =
    codes "\"bookies\":[" ++ (name_json names one ++ (codes "," ++ (name_json names other ++ codes "]")))

abbrev pub lost_json : List (String Global) → List (String Global) → Lost → List ℕ
lost_json names racks (Bookie lost) = codes "\"bookie\":" ++ name_json names lost
lost_json names racks (Rack rack) = codes "\"rack\":" ++ name_json racks rack
lost_json names racks (Pair one other) = pair_json names one other

abbrev pub loss_json : List (String Global) → List (String Global) → Loss → List ℕ
loss_json names racks loss =
    codes "{" ++ (lost_json names racks loss.lost ++ (codes "," ++ (rules_json loss.numbers ++ codes "}")))

abbrev pub losses_json : List (String Global) → List (String Global) → List Loss → List ℕ
losses_json names racks losses = codes "[" ++ (elements (loss_json names racks) true losses ++ codes "]")

abbrev pub fewest_field : Option ℕ → List ℕ
fewest_field None = codes "{\"fewest_copies\":null"
fewest_field (Some copies) = codes "{\"fewest_copies\":" ++ decimal copies

abbrev pub least_field : Option ℕ → List ℕ
least_field None = codes ",\"fewest_copies_not_closed\":null"
least_field (Some copies) = codes ",\"fewest_copies_not_closed\":" ++ decimal copies

abbrev pub judged_field : ℕ → List ℕ
judged_field not_judged = codes ",\"not_judged\":" ++ decimal not_judged

abbrev pub fewest_json : Risk → List ℕ
fewest_json risk = fewest_field risk.fewest_copies ++ (least_field risk.fewest_in_tails ++ judged_field risk.not_judged)

abbrev pub all_losses_json : List (String Global) → List (String Global) → Risk → List ℕ
all_losses_json names racks risk =
    codes ",\"bookies\":"
    ++ (losses_json names racks risk.bookies.items
    ++ (codes ",\"racks\":"
    ++ (losses_json names racks risk.racks.items ++ (codes ",\"pairs\":" ++ losses_json names racks risk.pairs.items))))

abbrev pub risk_json : List (String Global) → List (String Global) → Risk → List ℕ
risk_json names racks risk = fewest_json risk ++ (all_losses_json names racks risk ++ codes "}\n")
