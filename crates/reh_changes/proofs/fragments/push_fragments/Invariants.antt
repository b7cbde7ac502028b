-- The text so far and the lines of the fragments that are left.
use Rattle.std.proofs.Common.{◌≡◌, ◌++◌, drop, string_bytes}
use Rattle.reh_changes.specs.Changes.{fragment_lines}
use Rattle.reh_changes.proofs.fragments.push_fragments.Given as goal

abbrev pub invariant-loop-f : goal.invariant-loop-f
invariant-loop-f l =
    string_bytes l.text ++ fragment_lines l.names l.id l.f (drop l.f l.was) (drop l.f l.now)
    ≡ string_bytes l.fn.text ++ fragment_lines l.names l.id 0 l.was l.now
