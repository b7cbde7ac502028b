-- The names so far, and those of the candidates that are left.
use Rattle.std.proofs.Common.{◌≡◌, ◌==◌, ◌++◌, drop, map}
use Rattle.std.specs.List.{filter}
use Rattle.reh_near.proofs.near.push_at.Given as goal

abbrev pub invariant-loop-candidate : goal.invariant-loop-candidate
invariant-loop-candidate l =
    map (λ name. name.now) l.near.items
    ++ map (λ c. c.name.now) (filter (λ c. c.rank == l.rank) (drop l.candidate-index l.candidates))
    ≡ map (λ name. name.now) l.fn.near.items
    ++ map (λ c. c.name.now) (filter (λ c. c.rank == l.rank) l.candidates)
