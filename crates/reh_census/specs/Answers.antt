-- Whether bookies may be stopped.
use Rattle.std.specs.Prelude.{◌≡◌, ℕ, ◌+◌, Bool, true, false, cond, nat_lt, if◌then◌else◌}
use Rattle.reh_census.specs.declared.answers.Answer.{Answer}
use Rattle.reh_census.specs.declared.answers.Answer.TheVariants.{Yes, No, Unknown, UnknownDisks, NotJudged}
use Rattle.reh_census.specs.declared.answers.Numbers.{Numbers}
use Rattle.reh_census.specs.declared.answers.Rule.TheVariants.{Readable, Kept, Recoverable, Writable, Replaceable}
use Rattle.reh_census.specs.declared.questions.Question.{Question}
use Rattle.reh_census.specs.Bookies.{Bookies}
use Rattle.reh_census.specs.Counting.{Counting}
use Rattle.reh_census.specs.Rules.{falls, loses, may_fall, may_lose, not_sure}
use Rattle.reh_census.specs.Tails.{breaks_new_ledgers, breaks_recoverable, breaks_replaceable, breaks_writable, needs_disk}

-- how often the stop of these bookies breaks each rule, by a count of what passes a test
abbrev pub numbers_on : Counting → Bookies → Question → ℕ → (ℕ → Bool) → Numbers
numbers_on counting bookies question not_judged stopped = record {
  readable = record {
    no = counting.entries (loses stopped);
    unknown = counting.entries (not_sure (loses stopped) (may_lose stopped));
  };
  kept = record {
    no = counting.entries (falls question.keep stopped);
    unknown = counting.entries (not_sure (falls question.keep stopped) (may_fall question.keep stopped));
  };
  recoverable = counting.tails (breaks_recoverable bookies question stopped);
  writable =
      counting.tails (breaks_writable bookies question stopped) + cond (breaks_new_ledgers bookies question stopped) 1 0;
  replaceable = counting.ensembles (breaks_replaceable bookies question stopped);
  disks = counting.entries (needs_disk bookies question stopped);
  not_judged = not_judged;
}

-- where no rule is broken whatever the untold bookies hold
abbrev pub unknown_by : Numbers → Answer
unknown_by numbers =
    if nat_lt 0 numbers.readable.unknown then Unknown Readable numbers.readable.unknown
    else (if nat_lt 0 numbers.kept.unknown then Unknown Kept numbers.kept.unknown
    else (if nat_lt 0 numbers.disks then UnknownDisks numbers.disks
    else (if nat_lt 0 numbers.not_judged then NotJudged numbers.not_judged else Yes)))

-- the first rule that is broken is named
abbrev pub answer_by : Numbers → Answer
answer_by numbers =
    if nat_lt 0 numbers.readable.no then No Readable numbers.readable.no
    else (if nat_lt 0 numbers.kept.no then No Kept numbers.kept.no
    else (if nat_lt 0 numbers.recoverable then No Recoverable numbers.recoverable
    else (if nat_lt 0 numbers.writable then No Writable numbers.writable
    else (if nat_lt 0 numbers.replaceable then No Replaceable numbers.replaceable else unknown_by numbers))))

-- the answer on these bookies
abbrev pub answer_on : Counting → Bookies → Question → ℕ → (ℕ → Bool) → Answer
answer_on counting bookies question not_judged stopped =
    answer_by (numbers_on counting bookies question not_judged stopped)

abbrev pub is_yes : Answer → Bool
is_yes Yes = true
is_yes (No rule count) = false
is_yes (Unknown rule count) = false
is_yes (UnknownDisks count) = false
is_yes (NotJudged count) = false

-- nothing is broken, and nothing unknown
pub record IsAllZero (numbers : Numbers) : Type 0 where
  pub readable_no : numbers.readable.no ≡ 0
  pub readable_unknown : numbers.readable.unknown ≡ 0
  pub kept_no : numbers.kept.no ≡ 0
  pub kept_unknown : numbers.kept.unknown ≡ 0
  pub recoverable : numbers.recoverable ≡ 0
  pub writable : numbers.writable ≡ 0
  pub replaceable : numbers.replaceable ≡ 0
  pub disks : numbers.disks ≡ 0
  pub not_judged : numbers.not_judged ≡ 0
