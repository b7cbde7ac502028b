use Rattle.std.proofs.Common.{rules}
use Rattle.std.proofs.lemmas.List.Sorted.{answers_always}
use Rattle.reh_waves.specs.Losses.{is_worse}
use Rattle.reh_waves.proofs.RankLaws.{worse-orders}
use Rattle.reh_waves.proofs.losses.ranked.Goals as goal

pub returns : goal.returns
returns c = record {
  permutation = c.in_ok-sort_by.ensures.permutation;
  sorted = c.in_ok-sort_by.ensures.sorted is_worse worse-orders (answers_always _ _ _ (λ f a r g h. search rules));
  stable = c.in_ok-sort_by.ensures.stable is_worse worse-orders (answers_always _ _ _ (λ f a r g h. search rules));
}
