use Rattle.std.proofs.Common.{◌≡◌, ◌∙◌, ◌+◌, ◌%◌, ℕ, Bool, List, cond, ap, arith}
use Rattle.std.specs.Prelude.{slice_index}
use Rattle.reh_census.specs.Bookies.{bookies_of, is_holder}
use Rattle.reh_census.specs.Striping.{index_at}
use Rattle.reh_census.proofs.RangeLaws.{count-mapped_more}
use Rattle.reh_waves.proofs.spares.count_holders.Goals as goal

pub loop-rank-preserved : goal.loop-rank-preserved
loop-rank-preserved c =
    let passes : ℕ → Bool = is_holder (bookies_of c.args.bookies.now) in
    let index : ℕ = (c.args.entry + c.loop-rank.rank) % c.args.tail.now.size in
    let one : c.one_if-count.result ≡ cond (passes (slice_index c.args.tail.now.ensemble index)) 1 0 =
    c.one_if-count.ensures.value ∙ ap (λ (b : Bool). cond {A = ℕ} b 1 0) c.is_holder.ensures
    ∙ ap (λ (names : List ℕ). cond (passes (slice_index names index)) 1 0) c.as_slice-ensemble.ensures in
    record {
      counted =
          omega (
            arith,
            c.loop-rank.invariant.counted,
            one,
            count-mapped_more passes (λ i. slice_index c.args.tail.now.ensemble i) (index_at c.args.entry c.args.tail.now.size) c.loop-rank.rank,
          );
      within = omega (arith, c.loop-rank.invariant.within, c.one_if-count.ensures.within);
    }
