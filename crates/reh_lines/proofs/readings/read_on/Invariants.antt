use Rattle.std.proofs.Common.{◌≡◌, ◌+◌, ◌-◌, ◌≤◌, ◌++◌, List, ℕ, false, length, vec_len}
use Rattle.std.specs.Io.KnownBytes.{Consumes}
use Rattle.reh_types.specs.declared.limits.TheConstants.{MAX_SCRIPT_BYTES}
use Rattle.reh_lines.specs.Readings.{IsQuiet}
use Rattle.reh_lines.proofs.readings.read_on.Given as goal

-- what was read ends no line, no call has failed, and each gave a byte
abbrev pub invariant-loop-block : goal.invariant-loop-block
invariant-loop-block g l = record {
  given : (bytes : List ℕ) × (l.script.items ≡ l.fn.script.items ++ bytes)
      × Consumes (g.R.TextIn.remaining l.fn.reader) (g.R.TextIn.remaining l.reader) bytes × IsQuiet bytes;
  fine : g.R.TextIn.has_failed l.reader ≡ false;
  few : length l.script.items ≤ MAX_SCRIPT_BYTES;
  calls : g.R.TextIn.calls l.reader + length l.fn.script.items
      ≤ g.R.TextIn.calls l.fn.reader + length l.script.items;
}

abbrev pub decreases-loop-block : goal.decreases-loop-block
decreases-loop-block g l = MAX_SCRIPT_BYTES - vec_len l.script
