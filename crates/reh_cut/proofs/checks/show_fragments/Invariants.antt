-- Those that are passed do.
use Rattle.std.proofs.Common.{◌≡◌, option_copied, true}
use Rattle.std.specs.List.{list_all, range_with_len}
use Rattle.reh_cut.specs.Cuts.{shows_fragment}
use Rattle.reh_cut.proofs.checks.show_fragments.Given as goal

abbrev pub invariant-loop-fragment : goal.invariant-loop-fragment
invariant-loop-fragment l =
    list_all (shows_fragment l.rules l.line l.name (option_copied l.holding)) (range_with_len 0 l.fragment) ≡ true
