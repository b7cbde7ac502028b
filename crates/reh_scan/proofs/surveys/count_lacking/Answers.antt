-- Four words more have as many entries that no row has as ones.
use Rattle.std.proofs.Common.{◌≡◌, ◌∙◌, ◌+◌, ◌-◌, ◌*◌, ◌/◌, ◌%◌, ◌<◌, ◌≤◌, ◌&&◌, ℕ, Bool, not, ap, arith}
use Rattle.std.specs.Prelude.{count_by}
use Rattle.std.specs.List.{list_any}
use Rattle.std.proofs.lemmas.Nat.{mod_below}
use Rattle.reh_model.specs.Metadata.{Metadata, IsMetadata}
use Rattle.reh_model.specs.Striping.{range, write_set}
use Rattle.reh_stripe.proofs.MaskLaws.{start-next}
use Rattle.reh_scan.specs.Sources.{is_set_at}
use Rattle.reh_scan.proofs.SurveyLaws.{is_counted, counted_below, count-le, counted-none, counted-four, counted-all}
use Rattle.reh_scan.proofs.surveys.count_lacking.Goals as goal

pub loop-four-init : goal.loop-four-init
loop-four-init c =
    let m : Metadata = c.args.metadata.now in
    let begin : c.args.first / 64 ≡ c.args.first / 64 + 4 * 0 = omega arith in
    let lacks : ℕ → Bool = λ e. not (list_any (is_set_at c.args.rows.now e) (write_set e m.size m.write_quorum)) in
    record {
      counted =
          counted-none lacks c.args.first c.args.last ∙ ap (counted_below lacks c.args.first c.args.last) begin;
      start = (λ j. (64 * begin j) % c.size-size.ensures.size j);
    }

pub overflow_add-count : goal.overflow_add-count
overflow_add-count c =
    let m : Metadata = c.args.metadata.now in
    let lacks : ℕ → Bool = λ e. not (list_any (is_set_at c.args.rows.now e) (write_set e m.size m.write_quorum)) in
    let number : ℕ = c.args.first / 64 + 4 * c.loop-four.four in
    let was : c.loop-four.count ≡ counted_below lacks c.args.first c.args.last number = c.loop-four.invariant.counted in
    let bound : counted_below lacks c.args.first c.args.last number ≤ 64 * number =
    count-le (is_counted lacks c.args.first c.args.last) 0 (64 * number) in
    omega (arith, was, bound, c.count.type_inv)

pub loop-four-preserved : goal.loop-four-preserved
loop-four-preserved c =
    let m : Metadata = c.args.metadata.now in
    let reads : ℕ → Bool = λ e. list_any (is_set_at c.args.rows.now e) (write_set e m.size m.write_quorum) in
    let number : ℕ = c.args.first / 64 + 4 * c.loop-four.four in
    let next : number + 4 ≡ c.args.first / 64 + 4 * (c.loop-four.four + 1) = omega arith in
    record {
      counted =
          ap (λ n. c.loop-four.count + n) c.count.ensures.ones
          ∙ counted-four (λ e. not (reads e)) c.args.first c.args.last number c.loop-four.count
          c.without-lacking.result.words c.count.ensures.words
          (λ k i within inside.
          c.without-lacking.ensures k i within inside
          ∙ (λ j.
          c.between.ensures k i within inside j && not (c.readable_words-readable.ensures k i within inside j)))
          c.loop-four.invariant.counted
          ∙ ap (counted_below (λ e. not (reads e)) c.args.first c.args.last) next;
      start =
          c.wrapped-start.ensures
          ∙ (λ j. (c.loop-four.invariant.start j + 256 % c.size-size.ensures.size j) % c.size-size.ensures.size j)
          ∙ start-next number 4 m.size
          ∙ ap (λ n. (64 * n) % m.size) next;
    }

-- the index of rank 0 is one of the ensemble's
inside_ensemble : (m : Metadata) (n : ℕ) → IsMetadata m → n % m.size < m.size
inside_ensemble m n was = mod_below n m.size (omega (arith, was.some_acks, was.acks_within, was.writes_within))

pub wrapped-start-requires : goal.wrapped-start-requires
wrapped-start-requires c =
    let m : Metadata = c.args.metadata.now in
    let rules_of : IsMetadata m = c.size-size.ensures.well_formed in
    omega (
      arith,
      c.loop-four.invariant.start,
      c.size-size.ensures.size,
      inside_ensemble m (64 * (c.args.first / 64 + 4 * c.loop-four.four)) rules_of,
      mod_below 256 c.size-size.result
          (omega (arith, c.size-size.ensures.size, rules_of.some_acks, rules_of.acks_within, rules_of.writes_within)),
    )

pub overflow_cast-result : goal.overflow_cast-result
overflow_cast-result c =
    let m : Metadata = c.args.metadata.now in
    let lacks : ℕ → Bool = λ e. not (list_any (is_set_at c.args.rows.now e) (write_set e m.size m.write_quorum)) in
    let all : c.loop-four.count ≡ count_by lacks (range c.args.first (c.args.last + 1)) =
    c.loop-four.invariant.counted
    ∙ counted-all lacks c.args.first c.args.last (c.args.first / 64 + 4 * c.loop-four.four) c.requires.order
    (omega arith) in
    omega (arith, all, count-le lacks c.args.first (c.args.last + 1 - c.args.first))

pub returns : goal.returns
returns c =
    let m : Metadata = c.args.metadata.now in
    let lacks : ℕ → Bool = λ e. not (list_any (is_set_at c.args.rows.now e) (write_set e m.size m.write_quorum)) in
    c.loop-four.invariant.counted
    ∙ counted-all lacks c.args.first c.args.last (c.args.first / 64 + 4 * c.loop-four.four) c.requires.order
    (omega arith)
