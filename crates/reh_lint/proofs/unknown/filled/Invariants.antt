-- The words so far, and the parts that are left.
use Rattle.std.proofs.Common.{◌≡◌, ◌==◌, ◌++◌, drop, length, map, not}
use Rattle.std.specs.List.{filter}
use Rattle.reh_lint.proofs.unknown.filled.Given as goal

abbrev pub invariant-loop-part : goal.invariant-loop-part
invariant-loop-part l =
    map (λ word. word.now) l.words.items
    ++ filter (λ part. not (length part == 0)) (map (λ part. part.now) (drop l.part-index l.parts))
    ≡ filter (λ part. not (length part == 0)) (map (λ part. part.now) l.parts)
