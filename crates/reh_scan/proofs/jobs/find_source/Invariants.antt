-- The first member whose word has the bit is at one of the indexes that are left.
use Rattle.std.proofs.Common.{◌≡◌, drop, slice_index}
use Rattle.std.specs.List.{find}
use Rattle.reh_stripe.specs.Words.{has_bit}
use Rattle.reh_scan.proofs.jobs.find_source.Given as goal

abbrev pub invariant-loop-index : goal.invariant-loop-index
invariant-loop-index l =
    find (λ i. has_bit (slice_index l.held i) l.bit) l.indexes
    ≡ find (λ i. has_bit (slice_index l.held i) l.bit) (drop l.index-index l.indexes)
