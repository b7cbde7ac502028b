-- The first ten of all in their order.
use Rattle.std.proofs.Common.{List, sym, subst}
use Rattle.reh_against.specs.declared.found.Found.{Found}
use Rattle.reh_against.specs.Worst.{AreWorst}
use Rattle.reh_against.proofs.WorstLaws.{first-ten, sorted-by-cmp}
use Rattle.reh_against.proofs.picks.worst_of.Goals as goal

pub returns-clause-worst : goal.returns-clause-worst
returns-clause-worst c =
    subst (λ (found : List Found). AreWorst found c.truncate.new.self.items) c.in_ok-found.ensures.found
    (subst (λ (worst : List Found). AreWorst c.in_ok-found.found.items worst) (sym c.truncate.ensures.items)
    (first-ten c.in_ok-found.found.items c.sort.new.self.items c.in_ok-sort.ensures.permutation
    (sorted-by-cmp c.sort.new.self.items c.in_ok-sort.ensures.sorted)))
