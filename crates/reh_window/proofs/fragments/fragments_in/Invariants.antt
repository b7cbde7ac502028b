-- The fragments that are passed, and what is kept of the others.
use Rattle.std.proofs.Common.{◌≡◌, ◌++◌, drop}
use Rattle.reh_window.specs.Windows.{fragments_in}
use Rattle.reh_window.proofs.fragments.fragments_in.Given as goal

abbrev pub invariant-loop-number : goal.invariant-loop-number
invariant-loop-number l =
    l.parts.items ++ fragments_in l.span (drop l.number l.fragments) ≡ fragments_in l.span l.fragments
