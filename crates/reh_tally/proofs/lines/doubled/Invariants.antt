-- The lines that are passed.
use Rattle.std.proofs.Common.{◌≡◌, ℕ, Bool, take}
use Rattle.reh_tally.specs.Lines.{count_lines}
use Rattle.reh_tally.proofs.lines.doubled.Given as goal

abbrev pub invariant-loop-line : goal.invariant-loop-line
invariant-loop-line l = (test : ℕ → ℕ → Bool) → count_lines l.more.items test ≡ count_lines (take l.line-index l.places) test
