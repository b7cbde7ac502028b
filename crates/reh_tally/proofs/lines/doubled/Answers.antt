use Rattle.std.proofs.Common.{◌≡◌, ◌+◌, ℕ, List, cond, take, get_or, arith}
use Rattle.std.specs.Prelude.{sum_by}
use Rattle.std.proofs.lemmas.List.Sums.{sum_by_more}
use Rattle.reh_tally.specs.declared.lines.Line.{Line}
use Rattle.reh_tally.proofs.lines.doubled.Goals as goal

pub loop-line-preserved : goal.loop-line-preserved
loop-line-preserved c test =
    let lines : List Line = c.args.places.now in
    let n : ℕ = c.loop-line.line-index in
    let d : Line = record { known = 0; untold = 0; count = 0 } in
    let f : Line → ℕ = λ line. cond (test line.known line.untold) line.count 0 in
    let more : sum_by f (take (n + 1) lines) ≡ sum_by f (take n lines) + f (get_or lines n d) =
    sum_by_more f lines n d c.loop-line-test.true in
    omega (arith, more, c.loop-line.invariant test, c.in_ok-put.ensures test)
