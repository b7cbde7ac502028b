-- The masks of the remainders that are passed.
use Rattle.std.proofs.Common.{◌≡◌, map}
use Rattle.reh_census.specs.Ledgers.{carries}
use Rattle.reh_census.specs.Striping.{range}
use Rattle.reh_tally.specs.Masks.{mask_of}
use Rattle.reh_tally.proofs.masks.masks_of.Given as goal

abbrev pub invariant-loop-remainder : goal.invariant-loop-remainder
invariant-loop-remainder l =
    l.masks.items ≡ map (λ remainder. mask_of (carries l.ledger l.fragment remainder) l.members) (range 0 l.remainder)
