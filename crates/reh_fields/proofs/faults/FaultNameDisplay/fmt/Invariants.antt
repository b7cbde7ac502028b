-- The bytes so far are printed.
use Rattle.std.proofs.Common.{map, take}
use Rattle.std.specs.Fmt.{HasWritten, IsPlainFormatter}
use Rattle.reh_fields.specs.Faults.{printed_byte}
use Rattle.reh_fields.proofs.faults.FaultNameDisplay.fmt.Given as goal

abbrev pub invariant-loop-byte : goal.invariant-loop-byte
invariant-loop-byte g l =
    IsPlainFormatter l.initial.f
    → HasWritten g.W.Write.write_str_gives l.initial.f (map printed_byte (take l.byte-index l.byte-items)) l.f
