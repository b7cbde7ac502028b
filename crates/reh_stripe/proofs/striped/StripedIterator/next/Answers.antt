-- Each call gives the least striped entry that is left, and none exactly where none is left.
use Rattle.std.proofs.Common.{◌≡◌, ◌+◌, ◌-◌, ◌%◌, List, ℕ, [], ◌∷◌, length, sym, ◌∙◌, ap, arith}
use Rattle.reh_model.specs.Striping.{striped_entries, rank_of}
use Rattle.reh_model.proofs.StripingLaws.{striped_entries-step, striped_entries-past, striped_entries-outside}
use Rattle.std.proofs.Math.Nat.{mod-add-mod}
use Rattle.reh_stripe.proofs.striped.StripedIterator.next.Goals as goal

pub returns-then-self-clause-steps : goal.returns-then-self-clause-steps
returns-then-self-clause-steps c =
    let s = c.self.inside in
    let none : c.args.self.now ≡ [] =
    sym c.self.view_is
    ∙ striped_entries-outside (s.stop - s.at) s.at s.index s.size s.quorum (omega arith) (omega arith) in
    (none, none)

pub returns-then-skipped-saturating_sub-clause-steps : goal.returns-then-skipped-saturating_sub-clause-steps
returns-then-skipped-saturating_sub-clause-steps c =
    let s = c.self.inside in
    let rank : c.rank_from.result ≡ rank_of s.at s.index s.size =
    c.rank_from.ensures ∙ ap (λ (start : ℕ). (s.index + s.size - start) % s.size) c.self.invariant.3 in
    let none : c.args.self.now ≡ [] =
    sym c.self.view_is
    ∙ striped_entries-past s.at s.stop s.index s.size s.quorum (omega (arith, rank)) (omega (arith, rank))
    (omega (arith, rank)) (omega (arith, rank)) in
    (none, none)

pub returns-clause-steps : goal.returns-clause-steps
returns-clause-steps c =
    let s = c.self.inside in
    let rank : c.rank_from.result ≡ rank_of s.at s.index s.size =
    c.rank_from.ensures ∙ ap (λ (start : ℕ). (s.index + s.size - start) % s.size) c.self.invariant.3 in
    sym c.self.view_is
    ∙ striped_entries-step s.at s.stop s.index s.size s.quorum (s.at + c.saturating_sub-skipped.result)
    (omega (arith, rank)) (omega (arith, rank)) (omega (arith, rank)) (omega (arith, rank)) (omega (arith, rank))

pub returns-clause-goes : goal.returns-clause-goes
returns-clause-goes c =
    let s = c.self.inside in
    let rank : c.rank_from.result ≡ rank_of s.at s.index s.size =
    c.rank_from.ensures ∙ ap (λ (start : ℕ). (s.index + s.size - start) % s.size) c.self.invariant.3 in
    let entry = s.at + c.saturating_sub-skipped.result in
    let steps : c.args.self.now ≡ entry ∷ striped_entries (entry + 1) s.stop s.index s.size s.quorum =
    sym c.self.view_is
    ∙ striped_entries-step s.at s.stop s.index s.size s.quorum entry (omega (arith, rank)) (omega (arith, rank))
    (omega (arith, rank)) (omega (arith, rank)) (omega (arith, rank)) in
    let lengths = ap (λ (xs : List ℕ). length xs) steps in
    record { on = λ _. (tt, tt, omega (arith, lengths)); keeps = tt; rests = λ _. tt }

pub invariant_of-self : goal.invariant_of-self
invariant_of-self c =
    let s = c.self.inside in
    let skipped : ℕ = c.saturating_sub-skipped.result in
    let sum : s.start + skipped + 1 ≡ s.at % s.size + (skipped + 1) = omega (arith, c.self.invariant.3) in
    let after : s.at + (skipped + 1) ≡ s.at + skipped + 1 = omega arith in
    let start =
    c.wrapped-self-inside.ensures ∙ ap (λ (n : ℕ). n % s.size) sum ∙ mod-add-mod s.at s.size (skipped + 1)
    ∙ ap (λ (n : ℕ). n % s.size) after in
    (c.self.invariant.0, c.self.invariant.1, c.self.invariant.2, start)
