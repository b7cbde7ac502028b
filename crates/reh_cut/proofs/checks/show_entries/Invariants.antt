-- Those that are passed do.
use Rattle.std.proofs.Common.{◌≡◌, ◌-◌, option_copied, true}
use Rattle.std.specs.List.{list_all, range_with_len}
use Rattle.reh_cut.specs.Cuts.{shows_entry}
use Rattle.reh_cut.proofs.checks.show_entries.Given as goal

abbrev pub invariant-loop-entry : goal.invariant-loop-entry
invariant-loop-entry l =
    list_all (shows_entry l.rules l.striping (option_copied l.content) (option_copied l.holding))
    (range_with_len l.first (l.entry - l.first)) ≡ true
