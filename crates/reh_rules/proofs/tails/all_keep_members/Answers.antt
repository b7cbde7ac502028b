use Rattle.std.proofs.Common.{◌∙◌, ◌+◌, ◌-◌, ◌<◌, ℕ, Bool, sym, arith}
use Rattle.reh_census.specs.Bookies.{bookies_of, is_flagged}
use Rattle.reh_census.specs.Tails.{keeps_members}
use Rattle.reh_census.proofs.RangeLaws.{all_pass, one_fails}
use Rattle.reh_rules.proofs.tails.all_keep_members.Goals as goal

pub returns-then-not-keeps_members : goal.returns-then-not-keeps_members
returns-then-not-keeps_members c =
    let p : ℕ → Bool = keeps_members (bookies_of c.args.bookies.now) c.args.question.now (is_flagged c.args.stopped.now) c.args.tail.now in
    let below : c.loop-entry.entry < 0 + (c.args.tail.now.size - 0) = omega (arith, c.loop-entry-test.true) in
    sym (one_fails p 0 (c.args.tail.now.size - 0) c.loop-entry.entry (omega arith) below (sym c.keeps_members.ensures ∙ c.if-not-keeps_members.true))

pub returns : goal.returns
returns c =
    let p : ℕ → Bool = keeps_members (bookies_of c.args.bookies.now) c.args.question.now (is_flagged c.args.stopped.now) c.args.tail.now in
    sym
    (all_pass p 0 (c.args.tail.now.size - 0)
    (λ e from below. c.loop-entry.invariant e (omega (arith, below, c.loop-entry-test.false))))
