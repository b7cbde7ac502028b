-- What the program is asked, by all that is given.
use Rattle.std.specs.Prelude.{◌≡◌, ◌≢◌, ◌⊎◌, ℕ, List, None, Some, codes}
use Rattle.clap.specs.declared.parser.matches.ArgMatches.{ArgMatches}
use Rattle.reh_types.specs.Texts.{refusal_name, refusal_number}
use Rattle.reh_types.specs.declared.refusals.Refusal.{Refusal}
use Rattle.reh_commands.specs.Script.{verb_of}
use Rattle.reh_help.specs.Pages.{IsNamedBy, SaysNumber}
use Rattle.reh_words.specs.Asked.{IsGiven, IsTask, word_of}
use Rattle.reh_words.specs.Styles.{IsStyle}
use Rattle.reh_words.specs.declared.tasks.HelpTopic.{HelpTopic}
use Rattle.reh_words.specs.declared.tasks.HelpTopic.TheVariants as topic
use Rattle.reh_words.specs.declared.requests.Request.{Request}
use Rattle.reh_words.specs.declared.tasks.Task.{Task}
use Rattle.reh_words.specs.declared.tasks.Task.TheVariants as task

-- the word is no command of a script, and no name or number of a refusal
pub record IsUnknown (word : List ℕ) : Type 0 where
  pub no_verb : verb_of word ≡ None
  pub no_name : (refusal : Refusal) → refusal_name refusal ≢ word
  pub no_number : (refusal : Refusal) → SaysNumber word (refusal_number refusal) → ⊥

-- the word names what help is asked on
abbrev pub IsTopic : List ℕ → HelpTopic → Type 0
IsTopic word topic.Script = word ≡ codes "script"
IsTopic word topic.Refusals = word ≡ codes "refusals"
IsTopic word (topic.Refusal refusal) = IsNamedBy word refusal
IsTopic word (topic.Command verb) = verb_of word ≡ Some verb
IsTopic word (topic.Unknown other) = (other.now ≡ word) × IsUnknown word

abbrev pub IsOnTopic : List ℕ → Task → Type 0
IsOnTopic word (task.Help on) = IsTopic word on
IsOnTopic word other = ⊥

-- what `help` is asked, by its word
pub record IsHelp (matches : ArgMatches) (asked : Task) : Type 0 where
  pub given : ArgMatches
  pub is_given : IsGiven matches (codes "help") given
  pub word : List ℕ
  pub is_word : word_of given (codes "TOPIC") ≡ Some word
  pub is_asked : IsOnTopic word asked

abbrev pub IsAskedBy : ArgMatches → Task → Type 0
IsAskedBy matches asked = IsTask matches asked ⊎ IsHelp matches asked

-- one list of matches says what is asked, and how it is shown
pub record IsRequest (request : Request) : Type 0 where
  pub matches : ArgMatches
  pub is_asked : IsAskedBy matches request.task
  pub is_shown : IsStyle matches request.style
