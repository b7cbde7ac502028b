-- The fragments so far.
use Rattle.std.proofs.Common.{◌≡◌, map, take}
use Rattle.serde_json.specs.View.{view}
use Rattle.reh_picture_out.specs.Written.{fragment_data}
use Rattle.reh_picture_out.proofs.ledgers.fragment_values.Given as goal

abbrev pub invariant-loop-fragment : goal.invariant-loop-fragment
invariant-loop-fragment l = map view l.values.items ≡ map (fragment_data l.names) (take l.fragment-index l.fragments)
