use Rattle.std.proofs.Common.{◌≡◌, take}
use Rattle.reh_held.proofs.rows.have_same_entries.Given as goal

abbrev pub invariant-loop-number : goal.invariant-loop-number
invariant-loop-number l = take l.number l.words ≡ take l.number l.others
