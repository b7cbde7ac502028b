-- The names of the ranks so far.
use Rattle.std.proofs.Common.{◌≡◌, map}
use Rattle.std.specs.List.{filter, flat_map, range_with_len}
use Rattle.reh_near.specs.Near.{is_near, names_at}
use Rattle.reh_near.proofs.near.near_first.Given as goal

abbrev pub invariant-loop-rank : goal.invariant-loop-rank
invariant-loop-rank l =
    map (λ name. name.now) l.near.items
    ≡ flat_map (names_at l.word (filter (is_near l.word) (map (λ name. name.now) l.names))) (range_with_len 0 l.rank)
