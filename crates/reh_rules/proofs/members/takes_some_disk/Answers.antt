use Rattle.std.proofs.Common.{◌∙◌, ◌+◌, ◌-◌, ◌<◌, ℕ, Bool, length, sym, arith}
use Rattle.reh_census.specs.Bookies.{bookies_of, is_flagged}
use Rattle.reh_census.specs.Tails.{takes_disk}
use Rattle.reh_rules.proofs.RangeTests.{none_passes, one_passes}
use Rattle.reh_rules.proofs.members.takes_some_disk.Goals as goal

pub returns-then-takes_disk : goal.returns-then-takes_disk
returns-then-takes_disk c =
    let p : ℕ → Bool = takes_disk (bookies_of c.args.bookies.now) c.args.question.now (is_flagged c.args.stopped.now) in
    let below : c.loop-bookie.bookie < 0 + (length c.args.bookies.now - 0) = omega (arith, c.loop-bookie-test.true, c.len-bookie-end.ensures) in
    sym (one_passes p 0 (length c.args.bookies.now - 0) c.loop-bookie.bookie (omega arith) below (sym c.takes_disk.ensures ∙ c.if-takes_disk.true))

pub returns : goal.returns
returns c =
    let p : ℕ → Bool = takes_disk (bookies_of c.args.bookies.now) c.args.question.now (is_flagged c.args.stopped.now) in
    sym
    (none_passes p 0 (length c.args.bookies.now - 0)
    (λ b from below. c.loop-bookie.invariant b (omega (arith, below, c.loop-bookie-test.false, c.len-bookie-end.ensures))))
