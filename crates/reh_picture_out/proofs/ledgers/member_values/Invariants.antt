-- The members so far.
use Rattle.std.proofs.Common.{◌≡◌, map, take}
use Rattle.serde_json.specs.View.{view}
use Rattle.reh_picture_out.specs.Written.{member_data}
use Rattle.reh_picture_out.proofs.ledgers.member_values.Given as goal

abbrev pub invariant-loop-member : goal.invariant-loop-member
invariant-loop-member l = map view l.values.items ≡ map (member_data l.names) (take l.member-index l.members)
