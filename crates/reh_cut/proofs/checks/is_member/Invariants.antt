-- It is none of those that are passed.
use Rattle.std.proofs.Common.{◌≡◌, false, is_some, take}
use Rattle.std.specs.List.{list_any}
use Rattle.reh_cut.specs.Cuts.{index_in}
use Rattle.reh_cut.proofs.checks.is_member.Given as goal

abbrev pub invariant-loop-fragment : goal.invariant-loop-fragment
invariant-loop-fragment l = list_any (λ fragment. is_some (index_in fragment.ensemble l.name)) (take l.fragment-index l.fragment-items) ≡ false
