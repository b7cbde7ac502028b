-- Those that are passed are in turn, and the last of them stops there.
use Rattle.std.proofs.Common.{◌≡◌, ◌-◌, ◌≤◌, ◌<◌, get_or}
use Rattle.std.specs.List.{AllAdjacentBelow}
use Rattle.reh_census.specs.declared.ledgers.Fragment.{Fragment}
use Rattle.reh_census.proofs.ledgers.are_in_turn.Given as goal

abbrev pub invariant-loop-fragment : goal.invariant-loop-fragment
invariant-loop-fragment l = record {
  in_turn : AllAdjacentBelow (λ one next. one.stop ≤ next.first) l.fragments l.fragment-index;
  last : (d : Fragment) → 0 < l.fragment-index → l.stop ≡ (get_or l.fragments (l.fragment-index - 1) d).stop;
  first : l.fragment-index ≡ 0 → l.stop ≡ 0;
}
