-- What is said of a stop.
use Rattle.std.specs.Prelude.{ℕ, ◌+◌, Bool, true, false, not, ◌&&◌, ◌||◌, ◌==◌, nat_le, nat_lt, max, if◌then◌else◌}
use Rattle.std.specs.Prelude.{List, map, length, count_by, fold}
use Rattle.std.specs.List.{filter, list_any}
use Rattle.std.specs.Option.{is_some, option_map_or}
use Rattle.reh_census.specs.declared.censuses.Judged.{Judged}
use Rattle.reh_census.specs.declared.censuses.Tail.{Tail}
use Rattle.reh_census.specs.declared.classes.Class.{Class}
use Rattle.reh_census.specs.declared.classes.Counted.{Counted}
use Rattle.reh_census.specs.declared.questions.Keep.TheVariants.{Copies}
use Rattle.reh_census.specs.declared.questions.Question.{Question}
use Rattle.reh_census.specs.Answers.{answer_on, is_yes, numbers_on}
use Rattle.reh_census.specs.Bookies.{Bookies, is_writable, none}
use Rattle.reh_census.specs.Copies.{left}
use Rattle.reh_census.specs.Counting.{Counting, not_judged}
use Rattle.reh_census.specs.Striping.{range}
use Rattle.reh_census.specs.Tails.{breaks_new_ledgers, lacks_bookies, lacks_racks}
use Rattle.reh_answer.specs.declared.facts.Facts.{Facts}
use Rattle.reh_answer.specs.declared.unasked.Unasked.{Unasked}

-- how many known copies an entry of this class has, if there is one
abbrev pub copies_in : Counted → ℕ
copies_in counted = if nat_lt 0 counted.count then length counted.class.known else 0

-- the most known copies that an entry has
abbrev pub most_copies : List Counted → ℕ
most_copies census = fold (λ most counted. max most (copies_in counted)) 0 census

-- no registered bookie has the entry, or may have it by what nobody told
abbrev pub is_nowhere : Class → Bool
is_nowhere class = (length class.known == 0) && (length class.untold == 0)

-- how many entries have 0, 1, .. up to so many known copies without the stopped bookies
abbrev pub table : Counting → (ℕ → Bool) → ℕ → List ℕ
table counting stopped most =
    map (λ copies. counting.entries (λ class. left stopped class.known == copies)) (range 0 (most + 1))

-- the bookies to stop that aren't registered
abbrev pub is_missing : Bookies → (ℕ → Bool) → ℕ → Bool
is_missing bookies stopped b = stopped b && not (bookies.is_registered b)

abbrev pub unregistered : Bookies → (ℕ → Bool) → List ℕ
unregistered bookies stopped = filter (is_missing bookies stopped) bookies.names

-- whether the bookie is to be stopped, and registered
abbrev pub is_stopped_up : Bookies → (ℕ → Bool) → ℕ → Bool
is_stopped_up bookies stopped b = stopped b && bookies.is_registered b

-- whether the writer of this ledger has to change its ensemble: a member that is registered is to be stopped
abbrev pub has_to_change : Bookies → (ℕ → Bool) → Tail → Bool
has_to_change bookies stopped tail = tail.is_open && list_any (is_stopped_up bookies stopped) tail.ensemble

-- how many of the bookies to stop can be written to now
abbrev pub writable_stopped : Bookies → (ℕ → Bool) → ℕ
writable_stopped bookies stopped = count_by (λ b. stopped b && is_writable bookies none b) bookies.names

-- whether so many bookies are enough for the ack quorum of some counted entry or ledger; where none is counted, any are
abbrev pub reaches_ack_quorum : Counting → ℕ → Bool
reaches_ack_quorum counting bookies =
    nat_lt 0 (counting.entries (λ class. nat_le class.ack_quorum bookies))
    || (nat_lt 0 (counting.tails (λ tail. nat_le tail.ack_quorum bookies))
    || ((counting.entries (λ class. true) == 0) && (counting.tails (λ tail. true) == 0)))

-- whether the bookies to stop may be all that have copies of a ledger that nobody counted
abbrev pub may_hold_a_new_ledger : Counting → ℕ → Bool
may_hold_a_new_ledger counting bookies = nat_lt 0 bookies && reaches_ack_quorum counting bookies

-- the question with `--keep 1`
abbrev pub with_keep_1 : Question → Question
with_keep_1 question = record question { keep = Copies 1 }

-- whether the stop is a yes with it
abbrev pub keep_1_allows : Counting → Bookies → Question → ℕ → (ℕ → Bool) → Bool
keep_1_allows counting bookies question not_judged stopped =
    is_yes (answer_on counting bookies (with_keep_1 question) not_judged stopped)

-- whether some ledger is OPEN
abbrev pub has_writers : Counting → Bool
has_writers counting = nat_lt 0 (counting.tails (λ tail. tail.is_open))

-- which words of the question ask nothing: `--min-racks`, where no ledger is OPEN and new ledgers have no size, or where
-- bookies that can be written to stand in too few racks already; `--ensemble`, where too few can be written to already; and
-- both, where writers may be blocked
abbrev pub unasked_on : Counting → Bookies → Question → Unasked
unasked_on counting bookies question = record {
  racks = is_some question.min_racks && not (is_some question.ensemble || has_writers counting);
  racks_now = lacks_racks bookies question none;
  ensemble_now = option_map_or (lacks_bookies bookies none) question.ensemble false;
  writers = question.allow_blocked_writers && (is_some question.ensemble || is_some question.min_racks);
}

-- the facts by a count of what passes a test, where an entry has at most so many known copies
abbrev pub facts_on : Counting → ℕ → Bookies → Question → Judged → (ℕ → Bool) → Facts
facts_on counting most bookies question judged stopped = record {
  judged = judged;
  entries = counting.entries (λ class. true);
  unknown = counting.entries (λ class. nat_lt 0 (length class.untold));
  unreadable = counting.entries is_nowhere;
  numbers = numbers_on counting bookies question (not_judged judged) stopped;
  answer = answer_on counting bookies question (not_judged judged) stopped;
  breaks_new_ledgers = breaks_new_ledgers bookies question stopped;
  keep_1_allows = keep_1_allows counting bookies question (not_judged judged) stopped;
  copies_now = table counting none most;
  copies_without = table counting stopped most;
  unregistered = unregistered bookies stopped;
  writers_pause = nat_lt 0 (counting.tails (has_to_change bookies stopped));
  may_hold_a_new_ledger = may_hold_a_new_ledger counting (writable_stopped bookies stopped);
  unasked = unasked_on counting bookies question;
}
