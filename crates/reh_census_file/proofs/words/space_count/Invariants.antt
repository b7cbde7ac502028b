-- Those of the bytes that are passed.
use Rattle.std.proofs.Common.{◌≡◌, ◌≤◌, take}
use Rattle.std.specs.Prelude.{count_by}
use Rattle.reh_census_file.specs.Reading.{is_space}
use Rattle.reh_census_file.proofs.words.space_count.Given as goal

abbrev pub invariant-loop-byte : goal.invariant-loop-byte
invariant-loop-byte l = record {
  counted : l.count ≡ count_by is_space (take l.byte-index l.text);
  within : l.count ≤ l.byte-index;
}
