-- The windows of the lines that are passed; the first fault is among the others.
use Rattle.std.proofs.Common.{◌≡◌, drop, true, map, take}
use Rattle.std.specs.List.{list_all}
use Rattle.reh_window.specs.Windows.{has_window, window_of}
use Rattle.reh_cut.specs.Chosen.{windows_fault}
use Rattle.reh_cut.proofs.windows.windows_in.Given as goal

abbrev pub invariant-loop-line : goal.invariant-loop-line
invariant-loop-line l =
    (list_all (has_window l.window) (take l.line-index l.lines) ≡ true)
    × (l.made.items ≡ map (window_of l.window) (take l.line-index l.lines))
    × (windows_fault l.window (drop l.line-index l.lines) ≡ windows_fault l.window l.lines)
