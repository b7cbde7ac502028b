-- One name more, which is new, since the names are in order.
use Rattle.std.proofs.Common.{◌∙◌, ◌<◌, ◌++◌, ◌∷◌, [], Bool, List, ℕ, length, get_or, take, ap, sym, arith}
use Rattle.std.specs.Prelude.{slice_get, if◌then◌else◌}
use Rattle.std.specs.Option.{option_map_or}
use Rattle.std.proofs.lemmas.List.{take_more}
use Rattle.reh_census_file.specs.Names.{with_name}
use Rattle.reh_inputs.proofs.NameOrder.{new_in_order}
use Rattle.reh_inputs.proofs.RangeLaws.{at_place}
use Rattle.reh_inputs.proofs.named.names_of.Goals as goal

pub loop-number-preserved : goal.loop-number-preserved
loop-number-preserved c =
    let names = c.args.names.now in
    let k = c.loop-number.number in
    let within : k < length names = omega (arith, c.loop-number-test.true, c.len-number-end.ensures.count) in
    let name = get_or names k [] in
    c.in_ok-add_numbered.ensures
    ∙ ap (λ (list : List (List ℕ)). option_map_or (with_name list) (slice_get names k) list) c.loop-number.invariant
    ∙ at_place (with_name (take k names)) (take k names) [] names k within
    ∙ ap (λ (b : Bool). if b then take k names else take k names ++ name ∷ []) (new_in_order names k [] c.len-number-end.ensures.order within)
    ∙ sym (take_more names k [] within)
