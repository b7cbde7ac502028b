use Rattle.std.proofs.Common.{◌≡◌, ◌+◌, ◌-◌, ◌<◌, ◌≤◌, ℕ, List, ◌∙◌, length, get_or, ap, sym, subst, arith, inl, inr}
use Rattle.std.proofs.lemmas.Bool.{cases_lt, false≢true}
use Rattle.reh_census.specs.declared.ledgers.Fragment.{Fragment}
use Rattle.reh_census.specs.Ledgers.{InTurn}
use Rattle.reh_census.proofs.ledgers.are_in_turn.Goals as goal

-- the one before it stops later
crossed : (fragments : List Fragment) (i stop : ℕ) (f : Fragment) → f ≡ get_or fragments i f → f.first < stop → i < length fragments
    → (i ≡ 0 → stop ≡ 0) → (0 < i → stop ≡ (get_or fragments (i - 1) f).stop) → InTurn fragments → ⊥
crossed fragments i stop f at before within first last turn =
    let before-it : (k : ℕ) → k + 1 ≡ i → (get_or fragments k f).stop ≤ f.first =
    λ k next. subst (λ (x : Fragment). (get_or fragments k f).stop ≤ x.first) (ap (λ n. get_or fragments n f) next ∙ sym at)
    (turn k f (omega (arith, next, within))) in
    elim (cases_lt 0 i) [
      | inl some ↦ omega (arith, before, last some, before-it (i - 1) (omega (arith, some)))
      | inr none ↦ omega (arith, before, first (omega (arith, none)))
    ]

pub returns-then-fragment-stop : goal.returns-then-fragment-stop
returns-then-fragment-stop c = (
  λ told. absurd (false≢true told),
  λ turn. absurd
      (crossed c.args.fragments.now c.loop-fragment.fragment-index c.loop-fragment.stop c.fragment-item.result c.fragment-item.is
      c.if-fragment-stop.true c.loop-fragment-test.true c.loop-fragment.invariant.first (c.loop-fragment.invariant.last c.fragment-item.result) turn),
)
