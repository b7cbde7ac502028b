-- One fragment more.
use Rattle.std.proofs.Common.{◌∙◌, ◌++◌, ◌∷◌, [], map, ap, sym}
use Rattle.std.proofs.lemmas.List.{map-append}
use Rattle.reh_inventory_census.specs.Counted.{fragment_of}
use Rattle.reh_inventory_census.proofs.RangeLemmas.{range-more}
use Rattle.reh_inventory_census.proofs.counted.fragments_of.Goals as goal

pub loop-fragment-preserved : goal.loop-fragment-preserved
loop-fragment-preserved c =
    let make = fragment_of c.args.names.now c.args.end c.args.line.now in
    let f = c.loop-fragment.fragment in
    c.in_ok-push.ensures.items
    ∙ (λ i. c.loop-fragment.invariant i ++ c.in_ok-made.ensures i ∷ [])
    ∙ sym (ap (map make) (range-more f) ∙ map-append make _ (f ∷ []))
