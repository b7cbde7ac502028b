use Rattle.std.proofs.Common.{rules, ◌≡◌, ℕ, List, subst, length}
use Rattle.std.proofs.lemmas.Fn.{always_returns_same}
use Rattle.std.specs.List.Sorted.{IsPermutation, IsStableBy}
use Rattle.reh_census.specs.Striping.{range}
use Rattle.reh_waves.specs.Orders.{comes_before}
use Rattle.reh_waves.proofs.RankLaws.{names-order}
use Rattle.reh_waves.proofs.orders.order_by_name.Goals as goal

pub returns : goal.returns
returns c =
    let all : c.in_ok-order.order.items ≡ range 0 (length c.args.names.now) = c.in_ok-order.ensures in
    record {
      permutation = subst (λ (xs : List ℕ). IsPermutation xs c.sort_by.new.self.items) all c.in_ok-sort_by.ensures.permutation;
      sorted = c.in_ok-sort_by.ensures.sorted (comes_before c.args.names.now) (names-order c.args.names.now) (always_returns_same _ _ _ (λ a r f h. search rules));
      stable =
          subst (λ (xs : List ℕ). IsStableBy (comes_before c.args.names.now) xs c.sort_by.new.self.items) all
          (c.in_ok-sort_by.ensures.stable (comes_before c.args.names.now) (names-order c.args.names.now) (always_returns_same _ _ _ (λ a r f h. search rules)));
    }
