-- The names so far.
use Rattle.std.proofs.Common.{◌≡◌, map, take}
use Rattle.rehearse.proofs.inventory_plans.named.Given as goal

abbrev pub invariant-loop-word : goal.invariant-loop-word
invariant-loop-word l = l.list ≡ map (λ word. word.now) (take l.word-index l.words)
