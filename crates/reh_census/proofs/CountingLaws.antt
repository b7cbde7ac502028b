-- Counts of entries, ledgers and fragments.
use Rattle.std.proofs.Common.{◌≡◌, ◌∙◌, ◌+◌, ◌≤◌, ◌||◌, cond, ℕ, Bool, true, List, ◌++◌, ap, sym, length-append}
use Rattle.std.specs.Prelude.{count_by}
use Rattle.std.proofs.lemmas.List.Sums.{sum_by-le-sum_by, sum_by-append}
use Rattle.reh_census.specs.declared.censuses.Tail.{Tail}
use Rattle.reh_census.specs.declared.classes.Class.{Class}
use Rattle.reh_census.specs.declared.questions.Question.{Question}
use Rattle.reh_census.specs.Answers.{answer_by, answer_on, numbers_on}
use Rattle.reh_census.specs.declared.answers.Numbers.{Numbers}
use Rattle.reh_census.specs.Bookies.{Bookies}
use Rattle.reh_census.specs.Counting.{Census, Counting, IsCensus, census_sum, count_fragment, count_ledger, counting_in, counting_of, tail_of}
use Rattle.reh_census.specs.Copies.{in_order}
use Rattle.reh_census.specs.Ledgers.{Ledger, class_of}
use Rattle.reh_census.specs.Striping.{range}
use Rattle.reh_census.proofs.CountLaws.{cond_le, cond_mono, count-le, sum-le-plus}

-- a count for which a wider test counts as much, and what passes one of two tests is no more than what passes each
pub record IsFair (counting : Counting) : Type 0 where
  pub entries : (p q r : Class → Bool) → ((class : Class) → p class ≡ true → (q class || r class) ≡ true)
      → counting.entries p ≤ counting.entries q + counting.entries r
  pub tails : (p q : Tail → Bool) → ((tail : Tail) → p tail ≡ true → q tail ≡ true) → counting.tails p ≤ counting.tails q
  pub ensembles : (p q : List ℕ → Bool) → ((members : List ℕ) → p members ≡ true → q members ≡ true)
      → counting.ensembles p ≤ counting.ensembles q

pub fair-in : (census : Census) → IsFair (counting_in census)
fair-in census = record {
  entries = λ p q r implies.
      sum-le-plus (λ c. cond (p c.class) c.count 0) (λ c. cond (q c.class) c.count 0) (λ c. cond (r c.class) c.count 0) census.entries
      (λ c. cond_le (p c.class) (q c.class) (r c.class) c.count (implies c.class));
  tails = λ p q implies.
      sum_by-le-sum_by (λ t. cond (p t.tail) t.count 0) (λ t. cond (q t.tail) t.count 0) census.tails
      (λ t. cond_mono (p t.tail) (q t.tail) t.count (implies t.tail));
  ensembles = λ p q implies.
      sum_by-le-sum_by (λ e. cond (p e.members) e.count 0) (λ e. cond (q e.members) e.count 0) census.ensembles
      (λ e. cond_mono (p e.members) (q e.members) e.count (implies e.members));
}

pub fair-of : (holders : List ℕ) (ledgers : List Ledger) → IsFair (counting_of holders ledgers)
fair-of holders ledgers = record {
  entries = λ p q r implies.
      sum-le-plus (count_ledger holders p) (count_ledger holders q) (count_ledger holders r) ledgers
      (λ g. sum-le-plus (count_fragment holders g p) (count_fragment holders g q) (count_fragment holders g r) g.fragments
      (λ f. sum-le-plus (λ e. cond (p (class_of holders g f e)) 1 0) (λ e. cond (q (class_of holders g f e)) 1 0)
      (λ e. cond (r (class_of holders g f e)) 1 0) (range f.first f.stop)
      (λ e. cond_le (p (class_of holders g f e)) (q (class_of holders g f e)) (r (class_of holders g f e)) 1 (implies (class_of holders g f e)))));
  tails = λ p q implies.
      sum_by-le-sum_by (λ g. count_by p (tail_of g)) (λ g. count_by q (tail_of g)) ledgers (λ g. count-le p q (tail_of g) implies);
  ensembles = λ p q implies.
      sum_by-le-sum_by (λ g. count_by (λ f. p (in_order f.ensemble)) g.fragments) (λ g. count_by (λ f. q (in_order f.ensemble)) g.fragments) ledgers
      (λ g. count-le (λ f. p (in_order f.ensemble)) (λ f. q (in_order f.ensemble)) g.fragments (λ f. implies (in_order f.ensemble)));
}

-- a census counts what its ledgers do
pub same-counting : (census : Census) (holders : List ℕ) (ledgers : List Ledger) → IsCensus census holders ledgers
    → counting_in census ≡ counting_of holders ledgers
same-counting census holders ledgers counts =
    λ i. record {
      entries = λ test. counts.entries test i;
      tails = λ test. counts.tails test i;
      ensembles = λ test. counts.ensembles test i;
    }

pub census-numbers : (census : Census) (holders : List ℕ) (ledgers : List Ledger) (bookies : Bookies) (question : Question) (not_judged : ℕ) (stopped : ℕ → Bool)
    → IsCensus census holders ledgers
    → numbers_on (counting_in census) bookies question not_judged stopped ≡ numbers_on (counting_of holders ledgers) bookies question not_judged stopped
census-numbers census holders ledgers bookies question not_judged stopped counts =
    ap (λ (counting : Counting). numbers_on counting bookies question not_judged stopped) (same-counting census holders ledgers counts)

pub census-answer : (census : Census) (holders : List ℕ) (ledgers : List Ledger) (bookies : Bookies) (question : Question) (not_judged : ℕ) (stopped : ℕ → Bool)
    → IsCensus census holders ledgers
    → answer_on (counting_in census) bookies question not_judged stopped ≡ answer_on (counting_of holders ledgers) bookies question not_judged stopped
census-answer census holders ledgers bookies question not_judged stopped counts =
    ap (λ (numbers : Numbers). answer_by numbers) (census-numbers census holders ledgers bookies question not_judged stopped counts)

-- censuses add up
pub IsCensus-sum : (census other : Census) (holders : List ℕ) (ledgers others : List Ledger)
    → IsCensus census holders ledgers → IsCensus other holders others
    → IsCensus (census_sum census other) holders (ledgers ++ others)
IsCensus-sum census other holders ledgers others counts too = record {
  entries = λ test.
      sum_by-append (λ c. cond (test c.class) c.count 0) census.entries other.entries
      ∙ (λ i. counts.entries test i + too.entries test i)
      ∙ sym (sum_by-append (count_ledger holders test) ledgers others);
  tails = λ test.
      sum_by-append (λ t. cond (test t.tail) t.count 0) census.tails other.tails
      ∙ (λ i. counts.tails test i + too.tails test i)
      ∙ sym (sum_by-append (λ g. count_by test (tail_of g)) ledgers others);
  ensembles = λ test.
      sum_by-append (λ e. cond (test e.members) e.count 0) census.ensembles other.ensembles
      ∙ (λ i. counts.ensembles test i + too.ensembles test i)
      ∙ sym (sum_by-append (λ g. count_by (λ f. test (in_order f.ensemble)) g.fragments) ledgers others);
  judged = (λ i. counts.judged i + too.judged i) ∙ sym (length-append ledgers others);
}
