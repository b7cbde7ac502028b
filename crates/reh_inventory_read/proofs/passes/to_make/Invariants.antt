-- The lines that are passed wait.
use Rattle.std.proofs.Common.{◌≡◌, map}
use Rattle.reh_inventory_read.specs.Passes.{bytes_of}
use Rattle.reh_inventory_read.proofs.passes.to_make.Given as goal

abbrev pub invariant-loop-bytes : goal.invariant-loop-bytes
invariant-loop-bytes g l = bytes_of l.waiting.items ≡ map (λ line. line.items) l.yielded
