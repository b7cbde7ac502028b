-- The set has those members of the fragments so far that are lost so.
use Rattle.std.proofs.Common.{◌≡◌, take}
use Rattle.std.specs.List.{filter, flat_map}
use Rattle.reh_types.specs.Sets.{from_list}
use Rattle.reh_audit.specs.Members.{is_lost}
use Rattle.reh_audit.proofs.members.lost_from.Given as goal

abbrev pub invariant-loop-fragment : goal.invariant-loop-fragment
invariant-loop-fragment l =
    l.lost ≡ from_list (filter (is_lost l.loss l.state) (flat_map (λ fragment. fragment.ensemble) (take l.fragment-index l.fragments)))
