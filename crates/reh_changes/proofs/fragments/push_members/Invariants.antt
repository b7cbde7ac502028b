-- The text so far and the lines of the members that are left.
use Rattle.std.proofs.Common.{◌≡◌, ◌++◌, drop, string_bytes}
use Rattle.reh_changes.specs.Changes.{member_lines}
use Rattle.reh_changes.proofs.fragments.push_members.Given as goal

abbrev pub invariant-loop-i : goal.invariant-loop-i
invariant-loop-i l =
    string_bytes l.text ++ member_lines l.names l.id l.fragment l.i (drop l.i l.was) (drop l.i l.now)
    ≡ string_bytes l.fn.text ++ member_lines l.names l.id l.fragment 0 l.was l.now
