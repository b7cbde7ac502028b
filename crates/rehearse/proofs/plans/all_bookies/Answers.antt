-- One bookie more is put into the set.
use Rattle.std.proofs.Common.{◌≡◌, ◌∙◌, ℕ, ◌+◌, Bool, false, ap, sym, arith, nat_eq, nat_lt}
use Rattle.std.specs.Cmp.{unsigned_tied}
use Rattle.std.specs.Prelude.{◌||◌}
use Rattle.std.proofs.lemmas.Bool.Decides.{nat_tests}
use Rattle.reh_types.specs.Sets as set
use Rattle.rehearse.proofs.plans.all_bookies.Goals as goal

pub loop-number-init : goal.loop-number-init
loop-number-init c = λ b.
    let none : nat_lt b 0 ≡ false = grind (arith, nat_tests) in
    ap (λ s. set.contains s b) c.new-set.ensures ∙ set.contains-empty set.numbers b ∙ sym none

pub loop-number-preserved : goal.loop-number-preserved
loop-number-preserved c = λ b.
    let k : ℕ = c.loop-number.number in
    let s = c.loop-number.set in
    let more : (nat_eq b k || nat_lt b k) ≡ nat_lt b (k + 1) = grind (arith, nat_tests) in
    ap (λ s. set.contains s b) c.insert.ensures ∙ set.contains-insert s k b
    ∙ ap (λ t. t || set.contains s b) (unsigned_tied b k) ∙ ap (λ t. nat_eq b k || t) (c.loop-number.invariant b) ∙ more
