use Rattle.std.proofs.Common.{◌≡◌, ◌∙◌, ℕ, Bool, true, List, ap, length}
use Rattle.std.specs.Prelude.{nat_lt}
use Rattle.reh_census.specs.declared.answers.Numbers.{Numbers}
use Rattle.reh_census.specs.declared.censuses.CountedTail.{CountedTail}
use Rattle.reh_census.specs.declared.classes.Counted.{Counted}
use Rattle.reh_census.specs.Answers.{answer_by}
use Rattle.reh_census.specs.Bookies.{Bookies, bookies_of, holders, is_flagged}
use Rattle.reh_census.specs.Counting.{Counting, count_in, count_tails_in, counting_in}
use Rattle.reh_census.proofs.CountingLaws.{same-counting}
use Rattle.reh_answer.specs.Facts as model
use Rattle.reh_answer.proofs.facts.facts_of.Goals as goal

pub returns-clause-census : goal.returns-clause-census
returns-clause-census c =
    let counting : Counting = counting_in c.args.census.now in
    let bookies : Bookies = bookies_of c.args.bookies.now in
    let stopped : ℕ → Bool = is_flagged c.args.stopped.now in
    let most : c.most_copies-most.result ≡ model.most_copies c.args.census.now.entries =
    c.most_copies-most.ensures ∙ ap (λ (es : List Counted). model.most_copies es) c.entries.ensures.entries in
    λ i. record {
      judged = c.judged.ensures i;
      entries = (c.count_entries.ensures ∙ ap (λ (es : List Counted). count_in es (λ class. true)) c.entries-2.ensures.entries) i;
      unknown =
          (c.count_unknown.ensures
          ∙ ap (λ (es : List Counted). count_in es (λ class. nat_lt 0 (length class.untold))) c.entries-3.ensures.entries) i;
      unreadable =
          (c.count_unreadable.ensures ∙ ap (λ (es : List Counted). count_in es model.is_nowhere) c.entries-4.ensures.entries) i;
      numbers = c.numbers_of-numbers.ensures.census i;
      answer = (c.answer_by.ensures ∙ ap (λ (n : Numbers). answer_by n) c.numbers_of-numbers.ensures.census) i;
      breaks_new_ledgers = c.breaks_new_ledgers.ensures i;
      keep_1_allows = c.keep_1_allows.ensures i;
      copies_now =
          (c.in_ok-copies_now.ensures
          ∙ (λ k. model.table counting (λ b. is_flagged (c.none-none.ensures k) b) (most k))) i;
      copies_without = (c.in_ok-copies_without.ensures ∙ ap (λ (n : ℕ). model.table counting stopped n) most) i;
      unregistered = c.in_ok-unregistered.ensures i;
      writers_pause =
          (c.writers_pause.ensures
          ∙ ap (λ (ts : List CountedTail). nat_lt 0 (count_tails_in ts (model.has_to_change bookies stopped))) c.tails.ensures.tails) i;
      may_hold_a_new_ledger =
          (c.may_hold_a_new_ledger.ensures
          ∙ ap (λ (n : ℕ). model.may_hold_a_new_ledger counting n) c.writable_stopped-writable.ensures) i;
      unasked = c.unasked_of.ensures i;
    }

pub returns-clause-ledgers : goal.returns-clause-ledgers
returns-clause-ledgers c ledgers counts =
    returns-clause-census c
    ∙ ap (λ (counting : Counting). model.facts_on counting (model.most_copies c.args.census.now.entries)
    (bookies_of c.args.bookies.now) c.args.question.now c.args.census.now.judged (is_flagged c.args.stopped.now))
    (same-counting c.args.census.now (holders (bookies_of c.args.bookies.now)) ledgers counts)
