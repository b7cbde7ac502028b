-- Nothing is left to come to.
use Rattle.std.proofs.Common.{◌≡◌, ap, arith, drop}
use Rattle.reh_crew.specs.Shares.{lines_to}
use Rattle.reh_crew.proofs.RunLaws.{lines_to-none}
use Rattle.reh_crew.proofs.shares.lines_to.Goals as goal

pub returns-then-left-eq0-clause-lines : goal.returns-then-left-eq0-clause-lines
returns-then-left-eq0-clause-lines c =
    let rest = drop c.loop-count.count c.args.costs.now in
    let none : lines_to c.loop-count.left rest ≡ lines_to 0 rest = ap (λ n. lines_to n rest) c.if-left-eq0.true in
    omega (arith, c.loop-count.invariant, none, lines_to-none rest)
