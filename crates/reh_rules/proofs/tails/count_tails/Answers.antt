use Rattle.std.proofs.Common.{◌≡◌, ◌∙◌, ℕ, Bool, cond, ap, arith}
use Rattle.std.proofs.lemmas.List.Sums.{sum_by_more}
use Rattle.reh_census.specs.declared.censuses.CountedTail.{CountedTail}
use Rattle.reh_census.specs.declared.censuses.Tail.{Tail}
use Rattle.reh_census.specs.declared.questions.Question.{Question}
use Rattle.reh_census.specs.Bookies.{Bookies, bookies_of, is_flagged}
use Rattle.reh_census.specs.Tails.{breaks_recoverable, breaks_writable}
use Rattle.reh_rules.specs.declared.writers.Room.{Room}
use Rattle.reh_rules.specs.Room as rooms
use Rattle.reh_rules.proofs.RangeTests.{counted-fits, some_count}
use Rattle.reh_rules.proofs.tails.count_tails.Goals as goal

pub is_newly_stuck-stuck-requires-clause-before : goal.is_newly_stuck-stuck-requires-clause-before
is_newly_stuck-stuck-requires-clause-before c = ap (λ (room : Room). room.writable_now) c.requires.room

pub is_newly_stuck-stuck-requires-clause-after : goal.is_newly_stuck-stuck-requires-clause-after
is_newly_stuck-stuck-requires-clause-after c = ap (λ (room : Room). room.writable_then) c.requires.room

pub overflow_add-recoverable : goal.overflow_add-recoverable
overflow_add-recoverable c =
    omega (
      arith,
      c.requires.within,
      c.loop-counted.invariant.recoverable,
      c.count_if-recoverable.ensures,
      some_count c.breaks_recoverable-unrecoverable.result c.counted-item.result.count,
      ap (λ (x : CountedTail). x.count) c.counted-item.is,
      counted-fits c.args.tails.now (λ x. x.count)
          (λ x. breaks_recoverable (bookies_of c.args.bookies.now) c.args.question.now (is_flagged c.args.stopped.now) x.tail)
          c.loop-counted.counted-index c.counted-item.result c.loop-counted-test.true,
    )

pub overflow_add-writable : goal.overflow_add-writable
overflow_add-writable c =
    omega (
      arith,
      c.requires.within,
      c.loop-counted.invariant.writable,
      c.count_if-writable.ensures,
      some_count c.breaks_writable-unwritable.result c.counted-item.result.count,
      ap (λ (x : CountedTail). x.count) c.counted-item.is,
      counted-fits c.args.tails.now (λ x. x.count)
          (λ x. breaks_writable (bookies_of c.args.bookies.now) c.args.question.now (is_flagged c.args.stopped.now) x.tail)
          c.loop-counted.counted-index c.counted-item.result c.loop-counted-test.true,
    )

pub loop-counted-preserved : goal.loop-counted-preserved
loop-counted-preserved c =
    let s : ℕ → Bool = is_flagged c.args.stopped.now in
    let bookies : Bookies = bookies_of c.args.bookies.now in
    let question : Question = c.args.question.now in
    let tail : Tail = c.counted-item.result.tail in
    let recovered : CountedTail → ℕ = λ x. cond (breaks_recoverable bookies question s x.tail) x.count 0 in
    let written : CountedTail → ℕ = λ x. cond (breaks_writable bookies question s x.tail) x.count 0 in
    let unrecoverable : c.breaks_recoverable-unrecoverable.result ≡ breaks_recoverable bookies question s tail =
    c.breaks_recoverable-unrecoverable.ensures
    ∙ (λ i. rooms.breaks_recoverable bookies question s (c.requires.room i) (c.is_newly_stuck-stuck.ensures i) tail) in
    let unwritable : c.breaks_writable-unwritable.result ≡ breaks_writable bookies question s tail =
    c.breaks_writable-unwritable.ensures
    ∙ (λ i. rooms.breaks_writable question (c.requires.room i) (c.is_newly_stuck-stuck.ensures i) tail) in
    record {
      recoverable =
          omega (
            arith,
            c.loop-counted.invariant.recoverable,
            c.count_if-recoverable.ensures,
            ap (λ (b : Bool). cond {A = ℕ} b c.counted-item.result.count 0) unrecoverable,
            ap recovered c.counted-item.is,
            sum_by_more recovered c.args.tails.now c.loop-counted.counted-index c.counted-item.result c.loop-counted-test.true,
          );
      writable =
          omega (
            arith,
            c.loop-counted.invariant.writable,
            c.count_if-writable.ensures,
            ap (λ (b : Bool). cond {A = ℕ} b c.counted-item.result.count 0) unwritable,
            ap written c.counted-item.is,
            sum_by_more written c.args.tails.now c.loop-counted.counted-index c.counted-item.result c.loop-counted-test.true,
          );
    }
