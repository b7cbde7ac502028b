-- There is no space among those that are passed.
use Rattle.std.proofs.Common.{◌≡◌, ◌+◌, drop}
use Rattle.std.specs.List.{position_or_len}
use Rattle.reh_census_file.specs.Reading.{is_space}
use Rattle.reh_census_file.proofs.words.word_len.Given as goal

abbrev pub invariant-loop-index : goal.invariant-loop-index
invariant-loop-index l = l.index + position_or_len is_space (drop l.index l.text) ≡ position_or_len is_space l.text
