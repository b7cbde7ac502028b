-- What is printed so far.
use Rattle.std.proofs.Common.{◌≡◌, ◌++◌, map, take, string_bytes}
use Rattle.std.specs.Prelude.{flat_map}
use Rattle.reh_against.specs.Causes.{next}
use Rattle.reh_against.proofs.members.push_more.Given as goal

abbrev pub invariant-loop-bookie : goal.invariant-loop-bookie
invariant-loop-bookie l =
    string_bytes l.text ≡ string_bytes l.fn.text ++ flat_map (next (map string_bytes l.names)) (take l.bookie-index l.bookies)
