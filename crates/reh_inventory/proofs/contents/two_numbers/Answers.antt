-- A list of another length than two is no pair of numbers.
use Rattle.std.proofs.Common.{map, arith}
use Rattle.std.proofs.lemmas.List.{length-map}
use Rattle.serde_json.specs.View.{view}
use Rattle.reh_inventory.proofs.LastLemmas.{two_numbers-short}
use Rattle.reh_inventory.proofs.contents.two_numbers.Goals as goal

pub returns-in_default : goal.returns-in_default
returns-in_default c =
    two_numbers-short (map view c.args.list.now)
    (omega (arith, c.in_default.len_below, length-map c.args.list.now view))
