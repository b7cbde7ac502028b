-- Answers.
use Rattle.std.proofs.Common.{◌≡◌, ◌∙◌, ◌+◌, ◌≤◌, ◌&&◌, ◌||◌, not, cond, ℕ, Bool, true, false, List, refl, ap, sym, nat_lt, arith, true≢false}
use Rattle.std.proofs.lemmas.Bool.Decides.{nat_tests}
use Rattle.reh_census.specs.declared.answers.Answer.{Answer}
use Rattle.reh_census.specs.declared.answers.Answer.TheVariants.{Yes, No, Unknown, UnknownDisks, NotJudged}
use Rattle.reh_census.specs.declared.answers.Numbers.{Numbers}
use Rattle.reh_census.specs.declared.answers.Rule.TheVariants.{Readable, Kept, Recoverable, Writable, Replaceable}
use Rattle.reh_census.specs.declared.censuses.Tail.{Tail}
use Rattle.reh_census.specs.declared.classes.Class.{Class}
use Rattle.reh_census.specs.declared.questions.Question.{Question}
use Rattle.reh_census.specs.Answers.{IsAllZero, answer_by, answer_on, is_yes, numbers_on, unknown_by}
use Rattle.reh_census.specs.Bookies.{Bookies}
use Rattle.reh_census.specs.Copies.{IsPart, best, worst}
use Rattle.reh_census.specs.Counting.{Census, Counting, counting_in, counting_of}
use Rattle.reh_census.specs.Ledgers.{Ledger}
use Rattle.reh_census.specs.Rules.{copies_to_keep, falls, loses, may_fall, may_lose, not_sure}
use Rattle.reh_census.specs.Tails.{breaks_new_ledgers, breaks_recoverable, breaks_replaceable, breaks_writable, needs_disk}
use Rattle.reh_census.proofs.CountLaws.{cond_mono}
use Rattle.reh_census.proofs.CountingLaws.{IsFair, fair-in, fair-of}
use Rattle.reh_census.proofs.RuleLaws.{kept-best_part, kept-worst_part, readable-kept}
use Rattle.reh_census.proofs.TailLaws.{and-first, breaks_new_ledgers-part, breaks_recoverable-part, breaks_replaceable-part, breaks_writable-part, needs_disk-part}

-- Yes

zero_by : (n : ℕ) → nat_lt 0 n ≡ false → n ≡ 0
zero_by n none = grind (arith, nat_tests)

-- one number of a yes is 0, and the rest is a yes
past_zero : (n : ℕ) (some : Bool) (v rest : Answer) → nat_lt 0 n ≡ some → is_yes v ≡ false → is_yes (cond some v rest) ≡ true
    → (n ≡ 0) × (is_yes rest ≡ true)
past_zero n true v rest is fails goes = absurd (true≢false (sym goes ∙ fails))
past_zero n false v rest is fails goes = (zero_by n is, goes)

past : (n : ℕ) (v rest : Answer) → is_yes v ≡ false → is_yes (cond (nat_lt 0 n) v rest) ≡ true → (n ≡ 0) × (is_yes rest ≡ true)
past n v rest fails goes = past_zero n (nat_lt 0 n) v rest refl fails goes

-- what is asked after each rule
abbrev by_judged : Numbers → Answer
by_judged numbers = cond (nat_lt 0 numbers.not_judged) (NotJudged numbers.not_judged) Yes

abbrev by_disks : Numbers → Answer
by_disks numbers = cond (nat_lt 0 numbers.disks) (UnknownDisks numbers.disks) (by_judged numbers)

abbrev by_unsure : Numbers → Answer
by_unsure numbers = cond (nat_lt 0 numbers.kept.unknown) (Unknown Kept numbers.kept.unknown) (by_disks numbers)

abbrev by_replaceable : Numbers → Answer
by_replaceable numbers = cond (nat_lt 0 numbers.replaceable) (No Replaceable numbers.replaceable) (unknown_by numbers)

abbrev by_writable : Numbers → Answer
by_writable numbers = cond (nat_lt 0 numbers.writable) (No Writable numbers.writable) (by_replaceable numbers)

abbrev by_recoverable : Numbers → Answer
by_recoverable numbers = cond (nat_lt 0 numbers.recoverable) (No Recoverable numbers.recoverable) (by_writable numbers)

abbrev by_kept : Numbers → Answer
by_kept numbers = cond (nat_lt 0 numbers.kept.no) (No Kept numbers.kept.no) (by_recoverable numbers)

pub yes-zero : (numbers : Numbers) → is_yes (answer_by numbers) ≡ true → IsAllZero numbers
yes-zero numbers goes =
    let reading : (numbers.readable.no ≡ 0) × (is_yes (by_kept numbers) ≡ true) =
    past numbers.readable.no (No Readable numbers.readable.no) (by_kept numbers) refl goes in
    let keeping : (numbers.kept.no ≡ 0) × (is_yes (by_recoverable numbers) ≡ true) =
    past numbers.kept.no (No Kept numbers.kept.no) (by_recoverable numbers) refl reading.1 in
    let recovering : (numbers.recoverable ≡ 0) × (is_yes (by_writable numbers) ≡ true) =
    past numbers.recoverable (No Recoverable numbers.recoverable) (by_writable numbers) refl keeping.1 in
    let writing : (numbers.writable ≡ 0) × (is_yes (by_replaceable numbers) ≡ true) =
    past numbers.writable (No Writable numbers.writable) (by_replaceable numbers) refl recovering.1 in
    let placing : (numbers.replaceable ≡ 0) × (is_yes (unknown_by numbers) ≡ true) =
    past numbers.replaceable (No Replaceable numbers.replaceable) (unknown_by numbers) refl writing.1 in
    let untold : (numbers.readable.unknown ≡ 0) × (is_yes (by_unsure numbers) ≡ true) =
    past numbers.readable.unknown (Unknown Readable numbers.readable.unknown) (by_unsure numbers) refl placing.1 in
    let unsure : (numbers.kept.unknown ≡ 0) × (is_yes (by_disks numbers) ≡ true) =
    past numbers.kept.unknown (Unknown Kept numbers.kept.unknown) (by_disks numbers) refl untold.1 in
    let disks : (numbers.disks ≡ 0) × (is_yes (by_judged numbers) ≡ true) =
    past numbers.disks (UnknownDisks numbers.disks) (by_judged numbers) refl unsure.1 in
    let judged : (numbers.not_judged ≡ 0) × (is_yes Yes ≡ true) =
    past numbers.not_judged (NotJudged numbers.not_judged) Yes refl disks.1 in
    record {
      readable_no = reading.0;
      readable_unknown = untold.0;
      kept_no = keeping.0;
      kept_unknown = unsure.0;
      recoverable = recovering.0;
      writable = writing.0;
      replaceable = placing.0;
      disks = disks.0;
      not_judged = judged.0;
    }

skip : (n : ℕ) (v rest : Answer) → n ≡ 0 → is_yes rest ≡ true → is_yes (cond (nat_lt 0 n) v rest) ≡ true
skip n v rest none goes = ap (λ k. is_yes (cond (nat_lt 0 k) v rest)) none ∙ goes

pub zero-yes : (numbers : Numbers) → IsAllZero numbers → is_yes (answer_by numbers) ≡ true
zero-yes numbers z =
    skip numbers.readable.no (No Readable numbers.readable.no) (by_kept numbers) z.readable_no
    (skip numbers.kept.no (No Kept numbers.kept.no) (by_recoverable numbers) z.kept_no
    (skip numbers.recoverable (No Recoverable numbers.recoverable) (by_writable numbers) z.recoverable
    (skip numbers.writable (No Writable numbers.writable) (by_replaceable numbers) z.writable
    (skip numbers.replaceable (No Replaceable numbers.replaceable) (unknown_by numbers) z.replaceable
    (skip numbers.readable.unknown (Unknown Readable numbers.readable.unknown) (by_unsure numbers) z.readable_unknown
    (skip numbers.kept.unknown (Unknown Kept numbers.kept.unknown) (by_disks numbers) z.kept_unknown
    (skip numbers.disks (UnknownDisks numbers.disks) (by_judged numbers) z.disks
    (skip numbers.not_judged (NotJudged numbers.not_judged) Yes z.not_judged refl))))))))

-- A part of a yes

loses-part : (part whole : ℕ → Bool) → IsPart part whole → (class : Class) → loses part class ≡ true → loses whole class ≡ true
loses-part part whole within class breaks =
    readable-kept whole (best whole class)
    ∙ kept-best_part 1 part whole class within (sym (readable-kept part (best part class)) ∙ breaks)

may_lose-part : (part whole : ℕ → Bool) → IsPart part whole → (class : Class) → may_lose part class ≡ true → may_lose whole class ≡ true
may_lose-part part whole within class breaks =
    readable-kept whole (worst whole class)
    ∙ kept-worst_part 1 part whole class within (sym (readable-kept part (worst part class)) ∙ breaks)

twice : (a : Bool) → a ≡ true → (a || a) ≡ true
twice true is = refl
twice false is = is

covered : (every some : Bool) → some ≡ true → (every || (some && not every)) ≡ true
covered true some is = refl
covered false true is = refl
covered false false is = is

no_entries : (counting : Counting) → IsFair counting → (p q r : Class → Bool) → ((class : Class) → p class ≡ true → (q class || r class) ≡ true)
    → counting.entries q ≡ 0 → counting.entries r ≡ 0 → counting.entries p ≡ 0
no_entries counting fair p q r implies one other = omega (arith, fair.entries p q r implies, one, other)

no_tails : (counting : Counting) → IsFair counting → (p q : Tail → Bool) → ((tail : Tail) → p tail ≡ true → q tail ≡ true)
    → (less more : ℕ) → less ≤ more → counting.tails q + more ≡ 0 → counting.tails p + less ≡ 0
no_tails counting fair p q implies less more within none = omega (arith, fair.tails p q implies, within, none)

no_recovery : (counting : Counting) → IsFair counting → (p q : Tail → Bool) → ((tail : Tail) → p tail ≡ true → q tail ≡ true)
    → counting.tails q ≡ 0 → counting.tails p ≡ 0
no_recovery counting fair p q implies none = omega (arith, fair.tails p q implies, none)

no_ensembles : (counting : Counting) → IsFair counting → (p q : List ℕ → Bool) → ((members : List ℕ) → p members ≡ true → q members ≡ true)
    → counting.ensembles q ≡ 0 → counting.ensembles p ≡ 0
no_ensembles counting fair p q implies none = omega (arith, fair.ensembles p q implies, none)

-- where nothing speaks against the whole, nothing speaks against a part
zero-part : (counting : Counting) (bookies : Bookies) (question : Question) (not_judged : ℕ) (part whole : ℕ → Bool) → IsFair counting → IsPart part whole
    → IsAllZero (numbers_on counting bookies question not_judged whole) → IsAllZero (numbers_on counting bookies question not_judged part)
zero-part counting bookies question not_judged part whole fair within z = record {
  readable_no =
      no_entries counting fair (loses part) (loses whole) (loses whole)
      (λ c is. twice (loses whole c) (loses-part part whole within c is)) z.readable_no z.readable_no;
  readable_unknown =
      no_entries counting fair (not_sure (loses part) (may_lose part)) (loses whole) (not_sure (loses whole) (may_lose whole))
      (λ c is. covered (loses whole c) (may_lose whole c) (may_lose-part part whole within c (and-first (may_lose part c) (not (loses part c)) is)))
      z.readable_no z.readable_unknown;
  kept_no =
      no_entries counting fair (falls question.keep part) (falls question.keep whole) (falls question.keep whole)
      (λ c is. twice (falls question.keep whole c) (kept-best_part (copies_to_keep question.keep c.ack_quorum) part whole c within is))
      z.kept_no z.kept_no;
  kept_unknown =
      no_entries counting fair (not_sure (falls question.keep part) (may_fall question.keep part)) (falls question.keep whole)
      (not_sure (falls question.keep whole) (may_fall question.keep whole))
      (λ c is. covered (falls question.keep whole c) (may_fall question.keep whole c)
      (kept-worst_part (copies_to_keep question.keep c.ack_quorum) part whole c within (and-first (may_fall question.keep part c) (not (falls question.keep part c)) is)))
      z.kept_no z.kept_unknown;
  recoverable =
      no_recovery counting fair (breaks_recoverable bookies question part) (breaks_recoverable bookies question whole)
      (breaks_recoverable-part bookies question part whole within) z.recoverable;
  writable =
      no_tails counting fair (breaks_writable bookies question part) (breaks_writable bookies question whole)
      (breaks_writable-part bookies question part whole within)
      (cond (breaks_new_ledgers bookies question part) 1 0) (cond (breaks_new_ledgers bookies question whole) 1 0)
      (cond_mono (breaks_new_ledgers bookies question part) (breaks_new_ledgers bookies question whole) 1
      (breaks_new_ledgers-part bookies question part whole within))
      z.writable;
  replaceable =
      no_ensembles counting fair (breaks_replaceable bookies question part) (breaks_replaceable bookies question whole)
      (breaks_replaceable-part bookies question part whole within) z.replaceable;
  disks =
      no_entries counting fair (needs_disk bookies question part) (needs_disk bookies question whole) (needs_disk bookies question whole)
      (λ c is. twice (needs_disk bookies question whole c) (needs_disk-part bookies question part whole within c is)) z.disks z.disks;
  not_judged = z.not_judged;
}

yes-part : (counting : Counting) (bookies : Bookies) (question : Question) (not_judged : ℕ) (part whole : ℕ → Bool) → IsFair counting → IsPart part whole
    → is_yes (answer_on counting bookies question not_judged whole) ≡ true → is_yes (answer_on counting bookies question not_judged part) ≡ true
yes-part counting bookies question not_judged part whole fair within goes =
    zero-yes (numbers_on counting bookies question not_judged part)
    (zero-part counting bookies question not_judged part whole fair within (yes-zero (numbers_on counting bookies question not_judged whole) goes))

pub yes-part-in : (census : Census) (bookies : Bookies) (question : Question) (not_judged : ℕ) (part whole : ℕ → Bool) → IsPart part whole
    → is_yes (answer_on (counting_in census) bookies question not_judged whole) ≡ true
    → is_yes (answer_on (counting_in census) bookies question not_judged part) ≡ true
yes-part-in census bookies question not_judged part whole = yes-part (counting_in census) bookies question not_judged part whole (fair-in census)

pub yes-part-of : (holders : List ℕ) (ledgers : List Ledger) (bookies : Bookies) (question : Question) (not_judged : ℕ) (part whole : ℕ → Bool) → IsPart part whole
    → is_yes (answer_on (counting_of holders ledgers) bookies question not_judged whole) ≡ true
    → is_yes (answer_on (counting_of holders ledgers) bookies question not_judged part) ≡ true
yes-part-of holders ledgers bookies question not_judged part whole =
    yes-part (counting_of holders ledgers) bookies question not_judged part whole (fair-of holders ledgers)
