-- None of those that are passed ends it.
use Rattle.std.proofs.Common.{◌≡◌, ◌+◌, drop}
use Rattle.std.specs.Prelude.{option_map, position}
use Rattle.reh_census_file.specs.Whole.{is_line_end}
use Rattle.reh_census_file.proofs.reading.line_len.Given as goal

abbrev pub invariant-loop-index : goal.invariant-loop-index
invariant-loop-index l = option_map (λ k. l.index + k) (position is_line_end (drop l.index l.text)) ≡ position is_line_end l.text
