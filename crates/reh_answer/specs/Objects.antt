-- What is said of a stop, as JSON.
use Rattle.std.specs.Prelude.{◌≡◌, ℕ, List, [], ◌∷◌, ◌++◌, map, string_bytes, codes, Option, None, Some}
use Rattle.std.specs.Fmt.{decimal}
use Rattle.json.specs.Json.{Json, null, number, string, array, object, Items, no_items, item, no_members, member, document}
use Rattle.json.specs.Print.{print}
use Rattle.json.specs.Token.{Token, key}
use Rattle.json.specs.Tree.{json_tokens}
use Rattle.json.specs.Written.{Written}
use Rattle.reh_census.specs.declared.answers.Answer.{Answer}
use Rattle.reh_census.specs.declared.answers.Answer.TheVariants.{Yes, No, Unknown, UnknownDisks, NotJudged}
use Rattle.reh_census.specs.declared.answers.Broken.{Broken}
use Rattle.reh_census.specs.declared.answers.Numbers.{Numbers}
use Rattle.reh_census.specs.declared.answers.Rule.{Rule}
use Rattle.reh_census.specs.declared.answers.Rule.TheVariants.{Readable, Kept, Recoverable, Writable, Replaceable}
use Rattle.reh_answer.specs.declared.against.Against.{Against}
use Rattle.reh_answer.specs.declared.facts.Facts.{Facts}
use Rattle.reh_answer.specs.Texts.{notes_of}

abbrev pub number_json : ℕ → Json
number_json n = number (decimal n)

abbrev pub items_of : List Json → Items
items_of [] = no_items
items_of (value ∷ values) = item value (items_of values)

abbrev pub list_json : List Json → Json
list_json values = array (items_of values)

abbrev pub text_or_null : Option (List ℕ) → Json
text_or_null None = null
text_or_null (Some text) = string text

-- The answer

abbrev pub verdict_word : Answer → List ℕ
verdict_word Yes = codes "yes"
verdict_word (No rule count) = codes "no"
verdict_word (Unknown rule count) = codes "unknown"
verdict_word (UnknownDisks count) = codes "unknown"
verdict_word (NotJudged count) = codes "unknown"

abbrev pub rule_word : Rule → List ℕ
rule_word Readable = codes "readable"
rule_word Kept = codes "kept"
rule_word Recoverable = codes "recoverable"
rule_word Writable = codes "writable"
rule_word Replaceable = codes "replaceable"

abbrev pub rule_json : Answer → Json
rule_json Yes = null
rule_json (No rule count) = string (rule_word rule)
rule_json (Unknown rule count) = string (rule_word rule)
rule_json (UnknownDisks count) = string (codes "disks")
rule_json (NotJudged count) = string (codes "judged")

abbrev pub count_of : Answer → ℕ
count_of Yes = 0
count_of (No rule count) = count
count_of (Unknown rule count) = count
count_of (UnknownDisks count) = count
count_of (NotJudged count) = count

-- Its numbers

abbrev pub broken_json : Broken → Json
broken_json broken =
    object (
    member (codes "no") (number_json broken.no)
    (member (codes "unknown") (number_json broken.unknown) no_members)
    )

abbrev pub rules_json : Numbers → Json
rules_json numbers =
    object (
    member (codes "readable") (broken_json numbers.readable)
    (member (codes "kept") (broken_json numbers.kept)
    (member (codes "recoverable") (number_json numbers.recoverable)
    (member (codes "writable") (number_json numbers.writable)
    (member (codes "replaceable") (number_json numbers.replaceable)
    (member (codes "disks") (number_json numbers.disks) no_members)))))
    )

-- how many ledgers were announced isn't known; when the oldest input was taken is, if each tells its time
abbrev pub judged_json : Facts → Option (List ℕ) → Json
judged_json facts taken =
    object (
    member (codes "ledgers") (number_json facts.judged.ledgers)
    (member (codes "entries") (number_json facts.entries)
    (member (codes "assumed") (number_json facts.judged.assumed)
    (member (codes "unknown") (number_json facts.unknown)
    (member (codes "unread") (number_json facts.judged.unread)
    (member (codes "missing") (number_json facts.judged.missing)
    (member (codes "announced") null
    (member (codes "taken") (text_or_null taken) no_members)))))))
    )

abbrev pub copies_with : List ℕ → List ℕ → Json
copies_with now without =
    object (
    member (codes "now") (list_json (map number_json now))
    (member (codes "without") (list_json (map number_json without)) no_members)
    )

abbrev pub copies_json : Facts → Json
copies_json facts = copies_with facts.copies_now facts.copies_without

abbrev pub against_with : ℕ → ℕ → List ℕ → Json
against_with ledger entries cause =
    object (
    member (codes "ledger") (number_json ledger)
    (member (codes "entries") (number_json entries) (member (codes "cause") (string cause) no_members))
    )

abbrev pub against_json : Against → Json
against_json against = against_with against.ledger against.entries (string_bytes against.cause)

-- All of it

-- further notes come after those that apply
abbrev pub answer_with : Facts → List (List ℕ) → List Against → Option (List ℕ) → List (List ℕ) → Json
answer_with facts notes against taken further =
    object (
    member (codes "verdict") (string (verdict_word facts.answer))
    (member (codes "rule") (rule_json facts.answer)
    (member (codes "count") (number_json (count_of facts.answer))
    (member (codes "rules") (rules_json facts.numbers)
    (member (codes "judged") (judged_json facts taken)
    (member (codes "copies") (copies_json facts)
    (member (codes "against") (list_json (map against_json against))
    (member (codes "notes") (list_json (map string (notes ++ further))) no_members)))))))
    )

-- the bookies have these names, by number
abbrev pub answer_json : Facts → List (List ℕ) → List Against → Option (List ℕ) → List (List ℕ) → Json
answer_json facts names against taken further = answer_with facts (notes_of facts names taken) against taken further

-- a value on one line
abbrev pub line_of : Json → List ℕ
line_of value = print (json_tokens value) ++ codes "\n"

abbrev pub json_of : Facts → List (List ℕ) → List Against → Option (List ℕ) → List (List ℕ) → List ℕ
json_of facts names against taken further = line_of (answer_json facts names against taken further)

-- the text is a line that a reader of JSON reads as this value
pub record IsLineOf (value : Json) (text : List ℕ) : Type 0 where
  pub line : List ℕ
  pub ends : text ≡ line ++ codes "\n"
  pub reads : document line ≡ Some value

-- What a call adds

-- the key and its value
abbrev pub member_tokens : List ℕ → Json → List Token
member_tokens name value = key name ∷ json_tokens value

-- those of the answer
abbrev pub answer_tokens : Answer → List Token
answer_tokens answer =
    member_tokens (codes "verdict") (string (verdict_word answer))
    ++ (member_tokens (codes "rule") (rule_json answer) ++ member_tokens (codes "count") (number_json (count_of answer)))

-- these tokens are added to what is written
pub record Adds (added : List Token) (old new : Written) : Type 0 where
  pub before : new.before ≡ old.before
  pub tokens : new.tokens ≡ old.tokens ++ added
