use Rattle.std.proofs.Common.{◌≡◌, ◌∙◌, ℕ, Bool, List, cond, ap, arith}
use Rattle.std.proofs.lemmas.List.Sums.{sum_by_more}
use Rattle.reh_census.specs.declared.censuses.CountedEnsemble.{CountedEnsemble}
use Rattle.reh_census.specs.Bookies.{bookies_of, is_flagged}
use Rattle.reh_census.specs.Tails.{breaks_replaceable}
use Rattle.reh_rules.proofs.RangeTests.{counted-fits, some_count}
use Rattle.reh_rules.proofs.places.count_places.Goals as goal

pub overflow_add-fragments : goal.overflow_add-fragments
overflow_add-fragments c =
    omega (
      arith,
      c.requires.within,
      c.loop-counted.invariant,
      c.count_if-fragments.ensures,
      some_count c.breaks_replaceable-breaks.result c.counted-item.result.count,
      ap (λ (x : CountedEnsemble). x.count) c.counted-item.is,
      counted-fits c.args.ensembles.now (λ x. x.count)
          (λ x. breaks_replaceable (bookies_of c.args.bookies.now) c.args.question.now (is_flagged c.args.stopped.now) x.members)
          c.loop-counted.counted-index c.counted-item.result c.loop-counted-test.true,
    )

pub loop-counted-preserved : goal.loop-counted-preserved
loop-counted-preserved c =
    let test : List ℕ → Bool = breaks_replaceable (bookies_of c.args.bookies.now) c.args.question.now (is_flagged c.args.stopped.now) in
    let placed : CountedEnsemble → ℕ = λ x. cond (test x.members) x.count 0 in
    let breaks : c.breaks_replaceable-breaks.result ≡ test c.counted-item.result.members =
    c.breaks_replaceable-breaks.ensures ∙ ap test c.as_slice-members.ensures in
    omega (
      arith,
      c.loop-counted.invariant,
      c.count_if-fragments.ensures,
      ap (λ (b : Bool). cond {A = ℕ} b c.counted-item.result.count 0) breaks,
      ap placed c.counted-item.is,
      sum_by_more placed c.args.ensembles.now c.loop-counted.counted-index c.counted-item.result c.loop-counted-test.true,
    )
