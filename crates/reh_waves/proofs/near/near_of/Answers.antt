use Rattle.std.proofs.Common.{◌≡◌, ◌&&◌, ℕ, true, cond, List, [], ap, refl, arith}
use Rattle.std.proofs.lemmas.List.Sums.{sum_by-le-sum_by}
use Rattle.reh_census.specs.Bookies.{is_flagged}
use Rattle.reh_census.specs.Counting.{count_in, count_tails_in, ensembles_in, entries_in, tails_in}
use Rattle.reh_census.specs.declared.censuses.CountedEnsemble.{CountedEnsemble}
use Rattle.reh_census.specs.declared.censuses.CountedTail.{CountedTail}
use Rattle.reh_census.specs.declared.classes.Counted.{Counted}
use Rattle.reh_rules.proofs.RangeTests.{some_count}
use Rattle.reh_waves.specs.Near.{names_class, names_tail}
use Rattle.reh_waves.proofs.near.near_of.Goals as goal

pub of-requires : goal.of-requires
of-requires c = record {
  entries =
      let all : entries_in c.in_ok-entries.entries.items ≡ count_in c.in_ok-entries.entries.items (λ class. true) = refl in
      omega (
        arith,
        all,
        c.in_ok-entries.ensures (λ class. true),
        sum_by-le-sum_by (λ (x : Counted). cond {A = ℕ} (true && names_class (is_flagged c.args.among.now) x.class) x.count 0)
            (λ (x : Counted). x.count) c.entries.result.now
            (λ x. some_count (true && names_class (is_flagged c.args.among.now) x.class) x.count),
        c.entries.ensures.within,
      );
  tails =
      let all : tails_in c.in_ok-tails.tails.items ≡ count_tails_in c.in_ok-tails.tails.items (λ tail. true) = refl in
      omega (
        arith,
        all,
        c.in_ok-tails.ensures.counts (λ tail. true),
        sum_by-le-sum_by (λ (x : CountedTail). cond {A = ℕ} (true && names_tail (is_flagged c.args.among.now) x.tail) x.count 0)
            (λ (x : CountedTail). x.count) c.tails.result.now
            (λ x. some_count (true && names_tail (is_flagged c.args.among.now) x.tail) x.count),
        c.tails.ensures.within,
      );
  ensembles =
      let none : ensembles_in [] ≡ 0 = refl in
      omega (arith, none, ap (λ (es : List CountedEnsemble). ensembles_in es) c.new.ensures.items);
  not_judged = omega arith;
  well_formed = c.in_ok-tails.ensures.well_formed;
}
