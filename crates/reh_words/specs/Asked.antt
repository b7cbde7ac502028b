-- What is asked, by the arguments that are given.
use Rattle.std.specs.Prelude.{◌≡◌, ◌⊎◌, ℕ, Bool, true, false, List, [], map, max, min, take, Option, None, Some, unwrap_or, codes}
use Rattle.std.specs.Option.{option_map, option_map_or}
use Rattle.std.specs.Str.{bytes_eq}
use Rattle.std.specs.Str.Parse.{digits_value, without_leading_plus, ParsesUnsigned, ExplainsUnsignedError, HasUnsignedDigitsIfOk}
use Rattle.clap.specs.Matches.{has_subcommand, subcommand_name_of}
use Rattle.clap.specs.Simple.{subcommand_rows}
use Rattle.clap.specs.Walk.{rows_of}
use Rattle.clap.specs.Words.{ReadsOne, first_value, found_of, matched_of, one_text, raw_values}
use Rattle.clap.specs.declared.parser.matches.ArgMatches.{ArgMatches}
use Rattle.clap.specs.declared.parser.matches.ArgMatches.TheViews.{out-ArgMatches}
use Rattle.reh_census.specs.declared.questions.Keep.{Keep}
use Rattle.reh_crew.specs.declared.threads.TheConstants.{MAX_WORKERS}
use Rattle.reh_census.specs.declared.questions.Keep.TheVariants.{AckQuorum, Copies, AckLessOne}
use Rattle.reh_census.specs.declared.questions.Question.{Question}
use Rattle.reh_words.specs.declared.tasks.TheConstants.{MAX_FILES}
use Rattle.reh_words.specs.declared.tasks.CensusWords.{CensusWords}
use Rattle.reh_words.specs.declared.tasks.Crew.{Crew}
use Rattle.reh_words.specs.declared.tasks.CutWords.{CutWords}
use Rattle.reh_words.specs.declared.tasks.DrillFiles.{DrillFiles}
use Rattle.reh_words.specs.declared.tasks.Inputs.{Inputs}
use Rattle.reh_words.specs.declared.tasks.PlanWords.{PlanWords}
use Rattle.reh_words.specs.declared.tasks.PlayWords.TheVariants as play
use Rattle.reh_words.specs.declared.tasks.Prints.{Prints}
use Rattle.reh_words.specs.declared.tasks.Prints.TheVariants.{Answers, Changes, Json}
use Rattle.reh_words.specs.declared.tasks.RiskWords.{RiskWords}
use Rattle.reh_words.specs.declared.tasks.StopWords.{StopWords}
use Rattle.reh_words.specs.declared.tasks.Task.{Task}
use Rattle.reh_words.specs.declared.tasks.Task.TheVariants as task
use Rattle.reh_words.specs.declared.tasks.WaveWords.{WaveWords}

-- the word of an argument, and the words of all its uses
abbrev pub word_of : ArgMatches → List ℕ → Option (List ℕ)
word_of given name = first_value (found_of given) name

abbrev pub words_of : ArgMatches → List ℕ → List (List ℕ)
words_of given name = option_map_or (λ a. raw_values a) (matched_of (found_of given) name) []

-- whether the flag is given
pub record IsFlag (given : ArgMatches) (name : List ℕ) (is : Bool) : Type 0 where
  pub none : one_text (found_of given) name ≡ None → is ≡ false
  pub yes : one_text (found_of given) name ≡ Some (codes "true") → is ≡ true
  pub no : one_text (found_of given) name ≡ Some (codes "false") → is ≡ false

-- the number that the argument says: none, where it isn't given, or says no number below 2 ^ 64
pub record IsNumber (given : ArgMatches) (name : List ℕ) (number : Option ℕ) : Type 0 where
  pub none : one_text (found_of given) name ≡ None → number ≡ None
  pub says : (word : List ℕ) → one_text (found_of given) name ≡ Some word
      → ReadsOne (λ bs r. ParsesUnsigned 64 10 bs r × ExplainsUnsignedError 10 bs r × HasUnsignedDigitsIfOk bs r) word number

-- what is printed of each line: JSON where it is asked for, which has the changes in any case
abbrev pub prints_of : Bool → Bool → Prints
prints_of true changes = Json
prints_of false true = Changes
prints_of false false = Answers

pub record IsPrints (given : ArgMatches) (prints : Prints) : Type 0 where
  pub json : Bool
  pub is_json : IsFlag given (codes "json") json
  pub changes : Bool
  pub is_changes : IsFlag given (codes "changes") changes
  pub is_printed : prints ≡ prints_of json changes

-- how many copies are to be kept: one, where less than the ack quorum is allowed; the ack quorum, where no word says it; the
-- number that the word says, or where it says none, one less than the ack quorum
abbrev pub keep_of : Bool → Option (List ℕ) → Option ℕ → Keep
keep_of true word number = Copies 1
keep_of false None number = AckQuorum
keep_of false (Some word) (Some number) = Copies number
keep_of false (Some word) None = AckLessOne

pub record IsKeep (given : ArgMatches) (keep : Keep) : Type 0 where
  pub under_ack : Bool
  pub is_under_ack : IsFlag given (codes "allow-under-ack") under_ack
  pub number : Option ℕ
  pub is_number : IsNumber given (codes "keep") number
  pub is_kept : keep ≡ keep_of under_ack (word_of given (codes "keep")) number

pub record IsQuestion (given : ArgMatches) (question : Question) : Type 0 where
  pub keeps : IsKeep given question.keep
  pub ensembles : IsNumber given (codes "ensemble") question.ensemble
  pub racks : IsNumber given (codes "min-racks") question.min_racks
  pub blocks_recovery : IsFlag given (codes "allow-blocked-recovery") question.allow_blocked_recovery
  pub blocks_writers : IsFlag given (codes "allow-blocked-writers") question.allow_blocked_writers
  pub is_for_good : IsFlag given (codes "for-good") question.for_good

abbrev pub is_json : ArgMatches → Bool
is_json given = option_map_or (bytes_eq (codes "json")) (word_of given (codes "format")) false

-- who reads files: one worker, unless a number from 1 to 8 says otherwise
pub record IsReaders (given : ArgMatches) (crew : Crew) : Type 0 where
  pub number : Option ℕ
  pub is_number : IsNumber given (codes "workers") number
  pub works : crew.workers ≡ min (max (unwrap_or number 1) 1) MAX_WORKERS

-- the files, of which the parser lets no more through, the script that is played first, whether files are read strictly, and
-- who reads them
pub record IsInputs (given : ArgMatches) (inputs : Inputs) : Type 0 where
  pub files_are : map (λ file. file.now) inputs.files.items ≡ take MAX_FILES (words_of given (codes "FILE"))
  pub after_is : option_map (λ script. script.now) inputs.after ≡ word_of given (codes "after")
  pub is_strict : IsFlag given (codes "strict") inputs.strict
  pub readers : IsReaders given inputs.crew

-- what `ok-to-stop` is asked
pub record IsStop (given : ArgMatches) (stop : StopWords) : Type 0 where
  pub reads : IsInputs given stop.inputs
  pub bookies_are : map (λ word. word.now) stop.bookies.items ≡ words_of given (codes "lose")
  pub racks_are : map (λ word. word.now) stop.racks.items ≡ words_of given (codes "lose-rack")
  pub asks : IsQuestion given stop.question
  pub prints : stop.as_json ≡ is_json given

-- what `waves` is asked
pub record IsWaves (given : ArgMatches) (words : WaveWords) : Type 0 where
  pub reads : IsInputs given words.inputs
  pub asks : IsQuestion given words.question
  pub keeps_to_racks : IsFlag given (codes "racks") words.by_rack
  pub prints : words.as_json ≡ is_json given

-- what `risk` is asked
pub record IsRisk (given : ArgMatches) (words : RiskWords) : Type 0 where
  pub reads : IsInputs given words.inputs
  pub asks : IsQuestion given words.question
  pub has_pairs : IsFlag given (codes "pairs") words.with_pairs
  pub prints : words.as_json ≡ is_json given

-- what `census` is asked
pub record IsCensus (given : ArgMatches) (words : CensusWords) : Type 0 where
  pub reads : IsInputs given words.inputs
  pub prints : words.as_json ≡ is_json given

-- the number that a ledger's word says
abbrev pub id_of : List ℕ → ℕ
id_of word = digits_value 10 (without_leading_plus word)

-- what `cut` is asked
pub record IsCut (given : ArgMatches) (words : CutWords) : Type 0 where
  pub reads : word_of given (codes "INVENTORY") ≡ Some words.inventory.now
  pub ledgers : words.ledgers.items ≡ map id_of (words_of given (codes "ledgers"))
  pub held : IsFlag given (codes "assume-held") words.assume_held
  pub empty : IsFlag given (codes "assume-empty") words.assume_empty
  pub has_window : IsNumber given (codes "window") words.window

-- what one of these commands asks
abbrev pub IsAsked : List ℕ → ArgMatches → Task → Type 0
IsAsked command given (task.Stop stop) = (command ≡ codes "ok-to-stop") × IsStop given stop
IsAsked command given (task.Waves words) = (command ≡ codes "waves") × IsWaves given words
IsAsked command given (task.Risk words) = (command ≡ codes "risk") × IsRisk given words
IsAsked command given (task.Census words) = (command ≡ codes "census") × IsCensus given words
IsAsked command given (task.Cut words) = (command ≡ codes "cut") × IsCut given words
IsAsked command given other = ⊥

-- What is asked of a picture

-- what `check` is asked: of the picture, or of a script on it
abbrev pub IsCheck : ArgMatches → Task → Type 0
IsCheck given (task.Check picture script as_json) =
    (word_of given (codes "PICTURE") ≡ Some picture.now)
    × (option_map (λ file. file.now) script ≡ word_of given (codes "SCRIPT"))
    × (as_json ≡ is_json given)
IsCheck given other = ⊥

-- what `talk` is asked
abbrev pub IsTalk : ArgMatches → Task → Type 0
IsTalk given (task.Play (play.Talk picture prints)) =
    (word_of given (codes "PICTURE") ≡ Some picture.now) × IsPrints given prints
IsTalk given other = ⊥

-- how many workers there are: one, unless a number says otherwise
pub record IsCrew (given : ArgMatches) (crew : Crew) : Type 0 where
  pub number : Option ℕ
  pub is_number : IsNumber given (codes "workers") number
  pub works : crew.workers ≡ unwrap_or number 1

-- a picture and a script, each in a file; who makes the surveys; and what is printed
pub record IsFiles (given : ArgMatches) (picture script : List ℕ) (crew : Crew) (prints : Prints) : Type 0 where
  pub reads : word_of given (codes "PICTURE") ≡ Some picture
  pub plays : word_of given (codes "SCRIPT") ≡ Some script
  pub crew_is : IsCrew given crew
  pub is_printed : IsPrints given prints

-- what `run` is asked: a picture of the end is written exactly where a file for it is named
abbrev pub IsRun : ArgMatches → Task → Type 0
IsRun given (task.Play (play.Files picture script crew prints)) =
    IsFiles given picture.now script.now crew prints × (word_of given (codes "picture-out") ≡ None)
IsRun given (task.PlayOut words) =
    IsFiles given words.picture.now words.script.now words.crew words.prints
    × (word_of given (codes "picture-out") ≡ Some words.out.now)
IsRun given other = ⊥

-- what `drill` is asked: each script of an operator of its own
pub record IsDrill (given : ArgMatches) (files : DrillFiles) : Type 0 where
  pub reads : word_of given (codes "PICTURE") ≡ Some files.picture.now
  pub plays : map (λ file. file.now) files.scripts.items ≡ words_of given (codes "SCRIPT")

-- what `plan` is asked: two racks, as BookKeeper asks for, unless a number says otherwise
pub record IsPlan (given : ArgMatches) (words : PlanWords) : Type 0 where
  pub reads : word_of given (codes "PICTURE") ≡ Some words.picture.now
  pub after_is : option_map (λ script. script.now) words.after ≡ word_of given (codes "after")
  pub lost_are : map (λ word. word.now) words.lost.items ≡ words_of given (codes "lose")
  pub allowed_are : map (λ word. word.now) words.allowed.items ≡ words_of given (codes "to")
  pub number : Option ℕ
  pub is_number : IsNumber given (codes "min-racks") number
  pub in_racks : words.min_racks ≡ unwrap_or number 2
  pub writers : IsFlag given (codes "writers-roll") words.writers_roll
  pub is_sum : IsFlag given (codes "summary") words.only_sums
  pub prints : words.as_json ≡ is_json given
  pub expects : IsFlag given (codes "expect") words.expects
  pub held : IsFlag given (codes "assume-held") words.assume_held
  pub empty : IsFlag given (codes "assume-empty") words.assume_empty
  pub crew_is : IsCrew given words.crew
  pub out_is : option_map (λ folder. folder.now) words.output ≡ word_of given (codes "output")

-- what one of these commands asks of a picture
abbrev pub IsAskedOfPicture : List ℕ → ArgMatches → Task → Type 0
IsAskedOfPicture command given (task.Drill files) = (command ≡ codes "drill") × IsDrill given files
IsAskedOfPicture command given (task.Plan words) = (command ≡ codes "plan") × IsPlan given words
IsAskedOfPicture command given asked =
    ((command ≡ codes "check") × IsCheck given asked)
    ⊎ (((command ≡ codes "talk") × IsTalk given asked) ⊎ ((command ≡ codes "run") × IsRun given asked))

-- What is asked by all words

-- the command of that name was met, and what was found of its arguments
pub record IsGiven (matches : ArgMatches) (name : List ℕ) (given : ArgMatches) : Type 0 where
  pub named : Some name ≡ subcommand_name_of matches
  pub found : Some (rows_of (found_of given)) ≡ option_map (λ p. p.1) (subcommand_rows (out-ArgMatches matches).subcommand)

-- without a command it is what is piped in, and else what the command asks
abbrev pub IsTask : ArgMatches → Task → Type 0
IsTask matches asked =
    ((has_subcommand matches ≡ false) × (asked ≡ task.Play play.Pipe))
    ⊎ ((name : List ℕ) × (given : ArgMatches) × IsGiven matches name given
    × (IsAskedOfPicture name given asked ⊎ IsAsked name given asked))
