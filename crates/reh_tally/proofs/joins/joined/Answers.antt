use Rattle.std.proofs.Common.{◌≡◌, ◌∙◌, ◌+◌, ◌≤◌, ℕ, true, false, cond, All, sum_by, length, get_or, rules, ap, arith}
use Rattle.std.specs.Ordering.{is_gt}
use Rattle.std.proofs.lemmas.Fn.{always_returns_same}
use Rattle.std.proofs.lemmas.List.Sorted.{All-permutation, sum_by-IsPermutation}
use Rattle.reh_tally.proofs.LineLaws.{All-front, All-last, All-none, InOrder-none, falls, falls_order, front_sorted, last_first, sum-last, sum-none}
use Rattle.reh_tally.proofs.joins.joined.Goals as goal

pub loop-line-init : goal.loop-line-init
loop-line-init g c =
    let none : length c.in_ok-joined.joined.items ≡ 0 = ap length c.in_ok-joined.ensures.items in
    record {
      counts = λ test.
          ap (λ n. n + sum_by (λ one. cond (test (g.L.Line.kind one)) (g.L.Line.count one) 0) c.sort_by.new.self.items)
          (sum-none (λ one. cond (test (g.L.Line.kind one)) (g.L.Line.count one) 0) c.in_ok-joined.joined.items none)
          ∙ omega arith;
      sorted =
          c.in_ok-sort_by.ensures.sorted (falls g.L.Line.kind g.L.Line.cmp) (falls_order g.L.Line.kind g.L.Line.cmp g.met.L.Line.total)
          (always_returns_same _ _ _ (λ a r f k. (search rules, search rules)));
      behind = λ k d within.
          All-none (λ one. is_gt (g.L.Line.cmp (g.L.Line.kind one) (g.L.Line.kind (get_or c.sort_by.new.self.items k d))) ≡ false)
          c.in_ok-joined.joined.items none;
      order = InOrder-none (λ one next. g.L.Line.cmp (g.L.Line.kind one) (g.L.Line.kind next)) c.in_ok-joined.joined.items none;
      some = All-none (λ one. 1 ≤ g.L.Line.count one) c.in_ok-joined.joined.items none;
      fit = All-none (λ one. g.L.Line.IsFit (g.L.Line.kind one)) c.in_ok-joined.joined.items none;
      fits =
          All-permutation (λ one. g.L.Line.IsFit (g.L.Line.kind one)) c.args.lines.items c.sort_by.new.self.items
          c.in_ok-sort_by.ensures.permutation c.requires.fit;
    }

pub add_line-requires-clause-within : goal.add_line-requires-clause-within
add_line-requires-clause-within g c =
    let all : sum_by g.L.Line.count c.loop-line.joined.items + sum_by g.L.Line.count c.loop-line.sorted.items
    ≡ sum_by g.L.Line.count c.sort_by.new.self.items =
    c.loop-line.invariant.counts (λ _. true) in
    let same : sum_by g.L.Line.count c.sort_by.new.self.items ≡ sum_by g.L.Line.count c.args.lines.items =
    sum_by-IsPermutation g.L.Line.count c.args.lines.items c.sort_by.new.self.items c.in_ok-sort_by.ensures.permutation in
    let last : sum_by g.L.Line.count c.loop-line.sorted.items
    ≡ sum_by g.L.Line.count c.pop.new.self.items + g.L.Line.count c.in-Some.line =
    sum-last g.L.Line.count c.pop.new.self.items c.loop-line.sorted.items c.in-Some.line c.in-Some.ensures.items in
    omega (arith, all, same, last, c.requires.within)

pub add_line-requires-clause-behind : goal.add_line-requires-clause-behind
add_line-requires-clause-behind g c =
    All-last (λ left. All (λ one. is_gt (g.L.Line.cmp (g.L.Line.kind one) (g.L.Line.kind left)) ≡ false) c.loop-line.joined.items)
    c.pop.new.self.items c.loop-line.sorted.items c.in-Some.line c.in-Some.ensures.items c.loop-line.invariant.behind

pub loop-line-preserved : goal.loop-line-preserved
loop-line-preserved g c = record {
  counts = λ test.
      omega (
        arith,
        c.loop-line.invariant.counts test,
        c.in_ok-add_line.ensures.counts test,
        sum-last (λ one. cond (test (g.L.Line.kind one)) (g.L.Line.count one) 0) c.pop.new.self.items c.loop-line.sorted.items
            c.in-Some.line c.in-Some.ensures.items,
      );
  sorted =
      front_sorted (falls g.L.Line.kind g.L.Line.cmp) c.pop.new.self.items c.loop-line.sorted.items c.in-Some.line
      c.in-Some.ensures.items c.loop-line.invariant.sorted;
  behind = λ k d below.
      c.in_ok-add_line.ensures.behind (g.L.Line.kind (get_or c.pop.new.self.items k d))
      (All-front (λ left. All (λ one. is_gt (g.L.Line.cmp (g.L.Line.kind one) (g.L.Line.kind left)) ≡ false) c.loop-line.joined.items)
      c.pop.new.self.items c.loop-line.sorted.items c.in-Some.line c.in-Some.ensures.items c.loop-line.invariant.behind k d below)
      (last_first g.L.Line.kind g.L.Line.cmp g.met.L.Line.total c.pop.new.self.items c.loop-line.sorted.items c.in-Some.line
      c.in-Some.ensures.items c.loop-line.invariant.sorted k d below);
  order = c.in_ok-add_line.ensures.order;
  some = c.in_ok-add_line.ensures.some;
  fit = c.in_ok-add_line.ensures.fit;
  fits =
      All-front (λ one. g.L.Line.IsFit (g.L.Line.kind one)) c.pop.new.self.items c.loop-line.sorted.items c.in-Some.line
      c.in-Some.ensures.items c.loop-line.invariant.fits;
}

pub returns-clause-counts : goal.returns-clause-counts
returns-clause-counts g c test =
    let f : g.row.L.Denot → ℕ = λ one. cond (test (g.L.Line.kind one)) (g.L.Line.count one) 0 in
    let none : length c.loop-line.sorted.items ≡ 0 = omega (arith, c.in_default.ensures.cases) in
    omega (
      arith,
      c.loop-line.invariant.counts test,
      sum_by-IsPermutation f c.args.lines.items c.sort_by.new.self.items c.in_ok-sort_by.ensures.permutation,
      sum-none f c.loop-line.sorted.items none,
    )
