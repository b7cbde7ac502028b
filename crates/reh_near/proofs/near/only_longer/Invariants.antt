-- The one that was found, and those that are left, are all that begin with the word.
use Rattle.std.proofs.Common.{◌≡◌, ◌++◌, ◌∷◌, [], drop, map}
use Rattle.std.specs.List.{filter}
use Rattle.std.specs.Option.{option_map_or}
use Rattle.reh_near.specs.Near.{begins_with}
use Rattle.reh_near.proofs.near.only_longer.Given as goal

abbrev pub invariant-loop-name : goal.invariant-loop-name
invariant-loop-name l =
    filter (begins_with l.word) (map (λ name. name.now) l.names)
    ≡ option_map_or (λ name. name.now ∷ []) l.found []
    ++ filter (begins_with l.word) (map (λ name. name.now) (drop l.name-index l.names))
