-- The near names so far, each with its rank, and those that are left.
use Rattle.std.proofs.Common.{◌≡◌, ◌++◌, All, drop, map}
use Rattle.std.specs.List.{filter}
use Rattle.reh_near.specs.Near.{is_near, rank_of}
use Rattle.reh_near.proofs.near.candidates.Given as goal

abbrev pub invariant-loop-name : goal.invariant-loop-name
invariant-loop-name l =
    (map (λ c. c.name.now) l.near.items ++ filter (is_near l.word) (map (λ name. name.now) (drop l.name-index l.names))
    ≡ filter (is_near l.word) (map (λ name. name.now) l.names))
    × All (λ c. c.rank ≡ rank_of l.word c.name.now) l.near.items
