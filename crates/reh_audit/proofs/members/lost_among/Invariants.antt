-- The set has those of the members so far that are lost so.
use Rattle.std.proofs.Common.{◌≡◌, take}
use Rattle.std.specs.List.{filter}
use Rattle.reh_types.specs.Sets.{from_list}
use Rattle.reh_audit.specs.Members.{is_lost}
use Rattle.reh_audit.proofs.members.lost_among.Given as goal

abbrev pub invariant-loop-member : goal.invariant-loop-member
invariant-loop-member l = l.lost ≡ from_list (filter (is_lost l.loss l.state) (take l.member-index l.ensemble))
