use Rattle.std.proofs.Common.{◌≡◌, ◌∙◌, ◌+◌, ◌-◌, ◌%◌, ℕ, Bool, cond, length, ap, sym, arith}
use Rattle.std.specs.Prelude.{bit_and, min, slice_index, sum_by}
use Rattle.std.proofs.Math.Nat.{mod-add-mod}
use Rattle.reh_census.specs.Striping.{range}
use Rattle.reh_tally.specs.Lines.{count_lines}
use Rattle.reh_tally.proofs.RoundLaws.{by_index, count-rounds, sum-range_more}
use Rattle.reh_tally.proofs.rounds.count_segment.Goals as goal

grouped : (a b c d e : ℕ) → a ≡ b + c → d ≡ a + e → d ≡ b + (c + e)
grouped a b c d e was is = omega (arith, was, is)

pub loop-index-preserved : goal.loop-index-preserved
loop-index-preserved c test =
    let size : ℕ = length c.args.masks.now in
    let passes : ℕ → Bool =
    λ r. test (bit_and (slice_index c.args.masks.now r) c.args.held) (bit_and (slice_index c.args.masks.now r) c.args.untold) in
    let f : ℕ → ℕ = by_index passes size c.args.first c.rounds_in-rounds.result c.rest_of-more.result in
    let at : c.remainder_behind.result ≡ (c.args.first + c.loop-index.index) % size =
    c.remainder_behind.ensures ∙ mod-add-mod c.args.first size c.loop-index.index in
    let one : cond (passes c.remainder_behind.result) c.count_alike-count.result 0 ≡ f c.loop-index.index =
    λ i. cond (passes (at i)) (c.count_alike-count.ensures i) 0 in
    grouped (count_lines c.loop-index.lines test) (count_lines c.args.lines.now test) (sum_by f (range 0 c.loop-index.index)) _ (f c.loop-index.index)
    (c.loop-index.invariant test)
    (c.in_ok-add.ensures test ∙ ap (λ n. count_lines c.loop-index.lines test + n) one)
    ∙ ap (λ n. count_lines c.args.lines.now test + n) (sym (sum-range_more f c.loop-index.index))

pub returns : goal.returns
returns c test =
    let size : ℕ = length c.args.masks.now in
    let passes : ℕ → Bool =
    λ r. test (bit_and (slice_index c.args.masks.now r) c.args.held) (bit_and (slice_index c.args.masks.now r) c.args.untold) in
    let f : ℕ → ℕ = by_index passes size c.args.first c.rounds_in-rounds.result c.rest_of-more.result in
    let all : c.loop-index.index ≡ min (length c.args.masks.now) (c.args.stop - c.args.first) =
    omega (arith, c.loop-index-test.false, c.loop-index.auto.index-end, c.min-index-end.ensures) in
    c.loop-index.invariant test
    ∙ ap (λ n. count_lines c.args.lines.now test + n)
    (ap (λ n. sum_by f (range 0 n)) all
    ∙ (λ i. sum_by (by_index passes size c.args.first (c.rounds_in-rounds.ensures i) (c.rest_of-more.ensures i)) (range 0 (min size (c.args.stop - c.args.first))))
    ∙ count-rounds passes size c.args.first c.args.stop c.requires.some)
