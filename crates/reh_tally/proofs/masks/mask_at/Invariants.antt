-- The members of the ranks that are passed.
use Rattle.std.proofs.Common.{◌≡◌, ℕ, List, map}
use Rattle.reh_census.specs.declared.ledgers.Fragment.{Fragment}
use Rattle.reh_tally.specs.Masks.{bit_of, mask_of}
use Rattle.reh_tally.proofs.ClassLaws.{carries_first}
use Rattle.reh_tally.proofs.masks.mask_at.Given as goal

abbrev pub invariant-loop-rank : goal.invariant-loop-rank
invariant-loop-rank l =
    (members : List ℕ) (fragment : Fragment) → l.bits ≡ map (bit_of members) fragment.ensemble
    → l.mask ≡ mask_of (carries_first l.ledger fragment l.remainder l.rank) members
