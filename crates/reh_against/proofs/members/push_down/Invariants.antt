-- What is printed so far.
use Rattle.std.proofs.Common.{◌≡◌, ◌++◌, map, string_bytes}
use Rattle.std.specs.Prelude.{flat_map}
use Rattle.reh_census.specs.Bookies.{bookies_of}
use Rattle.reh_census.specs.Striping.{range}
use Rattle.reh_against.specs.Causes.{down_if, is_down_member}
use Rattle.reh_against.proofs.members.push_down.Given as goal

abbrev pub invariant-loop-bookie : goal.invariant-loop-bookie
invariant-loop-bookie l =
    string_bytes l.text
    ≡ string_bytes l.fn.text
    ++ flat_map (λ b. down_if (map string_bytes l.names) b (is_down_member (bookies_of l.bookies) l.parts b)) (range 0 l.bookie)
