-- What is printed so far.
use Rattle.std.proofs.Common.{◌≡◌, ◌++◌, take, string_bytes}
use Rattle.std.specs.Prelude.{flat_map}
use Rattle.reh_answer.specs.Texts.{against_line}
use Rattle.reh_answer.proofs.against.push_against.Given as goal

abbrev pub invariant-loop-one : goal.invariant-loop-one
invariant-loop-one l =
    string_bytes l.text ≡ string_bytes l.fn.text ++ flat_map against_line (take l.one-index l.against)
