use Rattle.std.proofs.Common.{◌≡◌, ◌*◌, ◌≤◌, length, take}
use Rattle.reh_held.specs.Rows.{entries_in}
use Rattle.reh_held.proofs.rows.Row.count.Given as goal

abbrev pub invariant-loop-word : goal.invariant-loop-word
invariant-loop-word l = (l.count ≡ length (entries_in (take l.word-index l.word-items))) × (l.count ≤ 64 * l.word-index)
