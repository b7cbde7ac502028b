-- The bookie of one name more.
use Rattle.std.proofs.Common.{◌<◌, ◌∙◌, ◌++◌, ◌∷◌, [], List, ℕ, Option, length, map, get_or, take, ap, sym, arith}
use Rattle.std.specs.Option.{option_map_or}
use Rattle.std.proofs.lemmas.List.{map-append, take_more}
use Rattle.std.proofs.lemmas.Option.{slice_get-get_or}
use Rattle.reh_inventory_census.specs.Bookies.{bookie_of, unregistered}
use Rattle.reh_inventory_census.proofs.bookies.bookies_of.Goals as goal

pub loop-number-preserved : goal.loop-number-preserved
loop-number-preserved c =
    let names = c.args.names.now in
    let k = c.loop-number.number in
    let within : k < length names = omega (arith, c.loop-number-test.true, c.len-number-end.ensures.count) in
    let make = bookie_of c.args.racks.now c.args.bookies.now in
    let here = c.bookie_at.ensures
    ∙ ap (λ (name : Option (List ℕ)). option_map_or make name unregistered) (slice_get-get_or names k [] within) in
    c.in_ok-push.ensures.items
    ∙ (λ i. c.loop-number.invariant i ++ here i ∷ [])
    ∙ sym (ap (map make) (take_more names k [] within) ∙ map-append make (take k names) (get_or names k [] ∷ []))
