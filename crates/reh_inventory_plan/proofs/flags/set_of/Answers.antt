-- One bookie more is looked at.
use Rattle.std.proofs.Common.{◌≡◌, ◌∙◌, ℕ, ◌+◌, Bool, true, false, ap, sym, refl, arith, nat_eq, nat_lt}
use Rattle.std.specs.Cmp.{unsigned_tied}
use Rattle.std.specs.Prelude.{◌&&◌, ◌||◌}
use Rattle.std.proofs.lemmas.Bool.Decides.{nat_tests}
use Rattle.reh_types.specs.Sets as set
use Rattle.reh_inventory_plan.specs.Pictures.{is_flagged}
use Rattle.reh_inventory_plan.proofs.flags.set_of.Goals as goal
use Rattle.reh_inventory_plan.proofs.flags.set_of.Goals.{then-is_set, else-is_set}

and_false : (t : Bool) → (t && false) ≡ false
and_false true = refl
and_false false = refl

with-next : (P : ℕ → Bool) (k b : ℕ) (s : Bool) → P k ≡ true → s ≡ (nat_lt b k && P b)
    → (nat_eq b k || s) ≡ (nat_lt b (k + 1) && P b)
with-next P k b s is was =
    elim (nat_eq b k) as (λ v. nat_eq b k ≡ v → (v || s) ≡ (nat_lt b (k + 1) && P b)) [
      | true ↦ λ e.
          let same : b ≡ k = grind (arith, nat_tests) in
          let within : nat_lt b (k + 1) ≡ true = grind (arith, nat_tests) in
          sym (ap (λ t. t && P b) within ∙ ap P same ∙ is)
      | false ↦ λ e.
          let less : nat_lt b (k + 1) ≡ nat_lt b k = grind (arith, nat_tests) in
          was ∙ ap (λ t. t && P b) (sym less)
    ] refl

without-next : (P : ℕ → Bool) (k b : ℕ) (s : Bool) → P k ≡ false → s ≡ (nat_lt b k && P b)
    → s ≡ (nat_lt b (k + 1) && P b)
without-next P k b s is was =
    elim (nat_eq b k) as (λ v. nat_eq b k ≡ v → s ≡ (nat_lt b (k + 1) && P b)) [
      | true ↦ λ e.
          let same : b ≡ k = grind (arith, nat_tests) in
          let no : P b ≡ false = ap P same ∙ is in
          was ∙ ap (λ t. nat_lt b k && t) no ∙ and_false (nat_lt b k) ∙ sym (and_false (nat_lt b (k + 1)))
          ∙ ap (λ t. nat_lt b (k + 1) && t) (sym no)
      | false ↦ λ e.
          let less : nat_lt b (k + 1) ≡ nat_lt b k = grind (arith, nat_tests) in
          was ∙ ap (λ t. t && P b) (sym less)
    ] refl

pub loop-number-init : goal.loop-number-init
loop-number-init c = λ b.
    let P : ℕ → Bool = λ b. is_flagged c.args.flags.now b in
    let none : nat_lt b 0 ≡ false = grind (arith, nat_tests) in
    ap (λ s. set.contains s b) c.new-bookies.ensures ∙ set.contains-empty set.numbers b ∙ ap (λ t. t && P b) (sym none)

pub loop-number-preserved : goal.loop-number-preserved
loop-number-preserved c = λ b.
    let P : ℕ → Bool = λ b. is_flagged c.args.flags.now b in
    let k : ℕ = c.loop-number.number in
    let s = c.loop-number.bookies in
    elim c.if-is_set.branch [
      | then-is_set w ↦
          ap (λ s. set.contains s b) (w.bookies-is ∙ w.insert.ensures) ∙ set.contains-insert s k b
          ∙ ap (λ t. t || set.contains s b) (unsigned_tied b k)
          ∙ with-next P k b (set.contains s b) (sym c.is_set.ensures ∙ w.if-is_set.true) (c.loop-number.invariant b)
      | else-is_set w ↦
          ap (λ s. set.contains s b) w.bookies-is
          ∙ without-next P k b (set.contains s b) (sym c.is_set.ensures ∙ w.if-is_set.false)
          (c.loop-number.invariant b)
    ]
