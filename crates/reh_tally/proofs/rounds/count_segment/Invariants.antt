-- The entries of the remainders that are passed.
use Rattle.std.proofs.Common.{◌≡◌, ◌+◌, ℕ, Bool, length}
use Rattle.std.specs.Prelude.{bit_and, slice_index, sum_by}
use Rattle.reh_census.specs.Striping.{range}
use Rattle.reh_tally.specs.Lines.{count_lines}
use Rattle.reh_tally.proofs.RoundLaws.{by_index}
use Rattle.reh_tally.proofs.rounds.count_segment.Given as goal

abbrev pub invariant-loop-index : goal.invariant-loop-index
invariant-loop-index l =
    (test : ℕ → ℕ → Bool)
    → count_lines l.lines test
    ≡ count_lines l.initial.lines test
    + sum_by
    (by_index (λ r. test (bit_and (slice_index l.masks r) l.held) (bit_and (slice_index l.masks r) l.untold)) (length l.masks) l.first l.rounds l.more)
    (range 0 l.index)
