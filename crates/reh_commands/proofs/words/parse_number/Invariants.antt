use Rattle.std.proofs.Common.{◌≡◌, ◌<◌, ◌^◌, drop}
use Rattle.std.specs.Str.{all_ascii_digits}
use Rattle.reh_commands.specs.Script.{read_on}
use Rattle.reh_commands.proofs.words.parse_number.Given as goal

-- what is left goes on from the value so far, and the digits so far are digits
abbrev pub invariant-loop-digit : goal.invariant-loop-digit
invariant-loop-digit l = record {
  value : read_on l.value (drop l.digit-index l.word) ≡ read_on 0 l.word;
  digits : all_ascii_digits (drop l.digit-index l.word) ≡ all_ascii_digits l.word;
  bound : l.value < 10 ^ l.digit-index;
}
