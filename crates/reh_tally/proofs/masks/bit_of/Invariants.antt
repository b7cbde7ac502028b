-- The bits of the members that are passed, from the last.
use Rattle.std.proofs.Common.{◌≡◌, ◌≤◌, drop, length}
use Rattle.reh_tally.specs.Masks.{bit_of}
use Rattle.reh_tally.proofs.masks.bit_of.Given as goal

abbrev pub invariant-loop-index : goal.invariant-loop-index
invariant-loop-index l = record {
  within : l.index ≤ length l.members;
  bits : l.mask ≡ bit_of (drop l.index l.members) l.bookie;
}

abbrev pub decreases-loop-index : goal.decreases-loop-index
decreases-loop-index l = l.index
