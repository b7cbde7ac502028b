use Rattle.std.proofs.Common.{◌≡◌, ◌+◌, ◌-◌, ◌<◌, ℕ, Bool, true, nat_lt, sym, arith}
use Rattle.std.specs.Prelude.{count_by}
use Rattle.std.proofs.lemmas.Bool.Decides.{nat_tests}
use Rattle.reh_census.specs.Bookies.{bookies_of, is_flagged, is_writable}
use Rattle.reh_census.specs.Tails.{lacks_acks, members}
use Rattle.reh_rules.proofs.RangeTests.{none_passes, one_passes}
use Rattle.reh_rules.proofs.tails.some_lacks_acks.Goals as goal

few : (a b : ℕ) → a < b → nat_lt a b ≡ true
few a b lt = grind (arith, nat_tests)

pub returns-then-count_acks-tail : goal.returns-then-count_acks-tail
returns-then-count_acks-tail c =
    let p : ℕ → Bool = lacks_acks (bookies_of c.args.bookies.now) (is_flagged c.args.stopped.now) c.args.tail.now in
    let count : ℕ = count_by (is_writable (bookies_of c.args.bookies.now) (is_flagged c.args.stopped.now)) (members c.args.tail.now c.loop-entry.entry) in
    let below : c.loop-entry.entry < 0 + (c.args.tail.now.size - 0) = omega (arith, c.loop-entry-test.true) in
    let less : count < c.args.tail.now.ack_quorum = omega (arith, c.if-count_acks-tail.true, c.count_acks.ensures) in
    sym (one_passes p 0 (c.args.tail.now.size - 0) c.loop-entry.entry (omega arith) below (few count c.args.tail.now.ack_quorum less))

pub returns : goal.returns
returns c =
    let p : ℕ → Bool = lacks_acks (bookies_of c.args.bookies.now) (is_flagged c.args.stopped.now) c.args.tail.now in
    sym
    (none_passes p 0 (c.args.tail.now.size - 0)
    (λ e from below. c.loop-entry.invariant e (omega (arith, below, c.loop-entry-test.false))))
