-- Entries by masks of the members that hold them and of those that nobody told of.
use Rattle.std.specs.Prelude.{ℕ, ◌%◌, Bool, List, bit_and, count_by, length, slice_index}
use Rattle.reh_census.specs.declared.classes.Class.{Class}
use Rattle.reh_census.specs.Ledgers.{Ledger}
use Rattle.reh_census.specs.Striping.{range}
use Rattle.reh_tally.specs.declared.lines.Line.{Line}
use Rattle.reh_tally.specs.Lines.{count_lines}
use Rattle.reh_tally.specs.Masks.{chosen}

-- how many entries of a range have masks that pass a test, where for each remainder a mask says onto which members they
-- are striped
abbrev pub count_masks : List ℕ → ℕ → ℕ → ℕ → ℕ → (ℕ → ℕ → Bool) → ℕ
count_masks masks held untold first stop test =
    count_by
    (λ entry. test (bit_and (slice_index masks (entry % length masks)) held) (bit_and (slice_index masks (entry % length masks)) untold))
    (range first stop)

-- the class of the entries with these known and these untold members
abbrev pub class_by : List ℕ → Ledger → ℕ → ℕ → Class
class_by members g known untold = record {
  known = chosen known members;
  untold = chosen untold members;
  ack_quorum = g.ack_quorum;
  write_quorum = g.write_quorum;
}

-- how many entries of a table are of classes that pass a test
abbrev pub count_classes : List ℕ → Ledger → List Line → (Class → Bool) → ℕ
count_classes members g lines test = count_lines lines (λ known untold. test (class_by members g known untold))
