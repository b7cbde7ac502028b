-- What a page of help is about.
use Rattle.std.specs.Prelude.{◌≡◌, ◌⊎◌, ℕ, ◌==◌, true, List, [], ◌∷◌, ◌++◌, find, length, map, Option, None, codes, is_some}
use Rattle.std.specs.Fmt.{decimal}
use Rattle.std.specs.List.{range_with_len}
use Rattle.std.specs.Str.Parse.{IsNumeral, digits_value, without_leading_plus}
use Rattle.reh_types.specs.declared.refusals.Refusal.{Refusal as AnyRefusal}
use Rattle.reh_types.specs.declared.refusals.Refusal.TheVariants.{NoMemory}
use Rattle.reh_types.specs.Texts.{refusal_name, refusal_number, refusal_value}
use Rattle.reh_commands.specs.Script.{verbs}
use Rattle.reh_commands.specs.Usage.{verb_text}
use Rattle.reh_commands.specs.declared.verbs.Verb.{Verb}
use Rattle.reh_help.specs.declared.pages.TheConstants.{REFUSALS, SCRIPT}
use Rattle.reh_help.specs.declared.refusals.Topic.{Topic}
use Rattle.reh_help.specs.declared.refusals.Topic.TheVariants.{Refusal, WantOfMemory}

-- the number of a refusal that something is said of
abbrev pub topic_number : Topic → ℕ
topic_number (Refusal refusal) = refusal_number refusal
topic_number WantOfMemory = refusal_number NoMemory

-- its name
abbrev pub topic_name : Topic → List ℕ
topic_name (Refusal refusal) = refusal_name refusal
topic_name WantOfMemory = refusal_name NoMemory

-- its value, if it has one
abbrev pub topic_value : Topic → Option ℕ
topic_value (Refusal refusal) = refusal_value refusal
topic_value WantOfMemory = None

-- its number and name, as an answer has them
abbrev pub title_of : Topic → List ℕ
title_of topic = decimal (topic_number topic) ++ (codes " " ++ topic_name topic)

-- the word is this number in digits, before which a plus may stand
pub record SaysNumber (word : List ℕ) (number : ℕ) : Type 0 where
  pub digits : IsNumeral 10 (without_leading_plus word)
  pub value : digits_value 10 (without_leading_plus word) ≡ number

-- the word is its name, or says its number
abbrev pub IsNamedBy : List ℕ → Topic → Type 0
IsNamedBy word topic = (topic_name topic ≡ word) ⊎ SaysNumber word (topic_number topic)

-- a text that begins so
pub record BeginsWith (start text : List ℕ) : Type 0 where
  pub rest : List ℕ
  pub says : text ≡ start ++ rest

-- the text begins with its number and name
abbrev pub HasTitle : Topic → List ℕ → Type 0
HasTitle topic text = BeginsWith (title_of topic) text

-- the page of a command: how it is written, and what happens by it
pub record IsCommandPageOf (verb : Verb) (text : List ℕ) : Type 0 where
  pub effect : List ℕ
  pub says : text ≡ verb_text verb ++ (codes "\n    " ++ (effect ++ codes "\n"))

-- Pages of several

-- the text has one part for each of these, in their order, and nothing else
abbrev pub HasParts : {A : Type 0} → (A → List ℕ → Type 0) → List A → List ℕ → Type 0
HasParts IsPart [] text = text ≡ []
HasParts IsPart (x ∷ xs) text =
    (part : List ℕ) × (rest : List ℕ) × (text ≡ part ++ rest) × IsPart x part × HasParts IsPart xs rest

-- the page of a command, after an empty line
pub record IsCommandPart (verb : Verb) (part : List ℕ) : Type 0 where
  pub page : List ℕ
  pub says : part ≡ codes "\n" ++ page
  pub is_page : IsCommandPageOf verb page

-- the page of a script: what stands above the commands, and the page of each, in the order of the verbs
pub record IsScriptPage (text : List ℕ) : Type 0 where
  pub commands : List ℕ
  pub says : text ≡ SCRIPT.now ++ commands
  pub has_each : HasParts IsCommandPart verbs commands

-- the line of a refusal begins with its number and name
pub record IsRefusalLine (topic : Topic) (line : List ℕ) : Type 0 where
  pub rest : List ℕ
  pub says : line ≡ title_of topic ++ (rest ++ codes "\n")

-- these are numbered from 1 on, and each refusal's number is among them
pub record AreTopics (topics : List Topic) : Type 0 where
  pub numbers : map topic_number topics ≡ range_with_len 1 (length topics)
  pub has_each : (refusal : AnyRefusal)
      → is_some (find (λ topic. topic_number topic == refusal_number refusal) topics) ≡ true

-- the page of the refusals: what stands above them, and the line of each, in the order of their numbers
pub record IsRefusalsPage (text : List ℕ) : Type 0 where
  pub topics : List Topic
  pub are_all : AreTopics topics
  pub lines : List ℕ
  pub says : text ≡ REFUSALS.now ++ lines
  pub has_each : HasParts IsRefusalLine topics lines
