-- The bytes that are passed are printable.
use Rattle.std.proofs.Common.{◌≤◌, ◌<◌, take}
use Rattle.std.specs.Prelude.{All}
use Rattle.reh_waves.proofs.printable.is_printable.Given as goal

abbrev pub invariant-loop-byte : goal.invariant-loop-byte
invariant-loop-byte l = All (λ b. (32 ≤ b) × (b < 127)) (take l.byte-index l.byte-items)
