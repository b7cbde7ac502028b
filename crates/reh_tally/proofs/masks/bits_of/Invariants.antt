-- The bits of those that are passed.
use Rattle.std.proofs.Common.{◌≡◌, map, take}
use Rattle.reh_tally.specs.Masks.{bit_of}
use Rattle.reh_tally.proofs.masks.bits_of.Given as goal

abbrev pub invariant-loop-bookie : goal.invariant-loop-bookie
invariant-loop-bookie l = l.bits.items ≡ map (bit_of l.members) (take l.bookie-index l.ensemble)
