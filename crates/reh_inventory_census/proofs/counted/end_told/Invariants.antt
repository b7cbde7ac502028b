-- The end of the contents that are passed.
use Rattle.std.proofs.Common.{◌≡◌, fold, take}
use Rattle.reh_inventory_census.specs.Counted.{end_held}
use Rattle.reh_inventory_census.proofs.counted.end_told.Given as goal

abbrev pub invariant-loop-content : goal.invariant-loop-content
invariant-loop-content l =
    l.end ≡ fold (λ end content. end_held end content.entries) 0 (take l.content-index l.contents)
