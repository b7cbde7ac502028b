use Rattle.std.proofs.Common.{◌≡◌, ◌-◌, ℕ, suc, List, take, drop, false, subst, sym, arith}
use Rattle.reh_lines.specs.Lines.{ended}
use Rattle.reh_lines.proofs.EndedLaws.{has_lf, ended_at, ended_none}
use Rattle.reh_lines.proofs.inputs.whole_lines.Goals as goal

pub returns-then-text-end-eq10 : goal.returns-then-text-end-eq10
returns-then-text-end-eq10 c =
    let text : List ℕ = c.args.text.now in
    let last : suc (c.loop-end.end - 1) ≡ c.loop-end.end = omega arith in
    subst (λ (n : ℕ). take n text ≡ ended text) last
    (sym (ended_at text (c.loop-end.end - 1) (omega arith) c.if-text-end-eq10.true (subst (λ (n : ℕ). has_lf (drop n text) ≡ false) (sym last) c.loop-end.invariant.none)))

pub returns : goal.returns
returns c =
    let none : c.loop-end.end ≡ 0 = omega arith in
    sym (ended_none c.args.text.now (subst (λ (n : ℕ). has_lf (drop n c.args.text.now) ≡ false) none c.loop-end.invariant.none))
