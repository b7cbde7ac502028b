use Rattle.std.proofs.Common.{◌≡◌, length}
use Rattle.reh_files.proofs.files.read_scripts.Given as goal

abbrev pub invariant-loop-path : goal.invariant-loop-path
invariant-loop-path l = length l.scripts.items ≡ l.path-index
