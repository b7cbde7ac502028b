use Rattle.std.proofs.Common.{◌≡◌, ◌∙◌, ℕ, Bool, cond, ap, arith}
use Rattle.std.specs.Prelude.{slice_index}
use Rattle.reh_census.specs.Bookies.{bookies_of, is_flagged}
use Rattle.reh_census.specs.Tails.{is_at_stake}
use Rattle.reh_census.specs.Striping.{index_at}
use Rattle.reh_census.proofs.RangeLaws.{count-mapped_more}
use Rattle.reh_rules.proofs.members.count_at_stake.Goals as goal

pub loop-rank-preserved : goal.loop-rank-preserved
loop-rank-preserved c =
    let test : ℕ → Bool = is_at_stake (bookies_of c.args.bookies.now) c.args.question.now (is_flagged c.args.stopped.now) in
    let at : ℕ → ℕ = index_at c.args.entry c.args.tail.now.size in
    let one : c.one_if-count.result ≡ cond (test (slice_index c.args.tail.now.ensemble (at c.loop-rank.rank))) 1 0 =
    c.one_if-count.ensures.value
    ∙ ap (λ (b : Bool). cond {A = ℕ} b 1 0) (c.is_at_stake.ensures ∙ ap test c.member_at-member.ensures) in
    record {
      counted =
          omega (
            arith,
            c.loop-rank.invariant.counted,
            one,
            count-mapped_more test (λ i. slice_index c.args.tail.now.ensemble i) at c.loop-rank.rank,
          );
      within = omega (arith, c.loop-rank.invariant.within, c.one_if-count.ensures.within);
    }
