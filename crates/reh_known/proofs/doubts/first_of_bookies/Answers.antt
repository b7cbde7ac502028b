-- Of one bookie more it is known what it holds.
use Rattle.std.proofs.Common.{◌≡◌, ℕ, subst, sym, arith, inl, inr}
use Rattle.std.proofs.lemmas.Bool.{cases_lt}
use Rattle.reh_known.specs.Known.{IsKnown}
use Rattle.reh_known.proofs.doubts.first_of_bookies.Goals as goal

pub loop-bookie-preserved : goal.loop-bookie-preserved
loop-bookie-preserved c = λ b within.
    let P : ℕ → Type 0 = IsKnown c.args.state.now c.args.done.now c.args.began.now c.args.was.now c.args.now.now in
    let bookie = c.loop-bookie.bookie in
    elim (cases_lt b bookie) as (λ _. P b) [
      | inl before ↦ c.loop-bookie.invariant b before
      | inr last ↦ let here : bookie ≡ b = omega (arith, within, last) in subst P here c.in_default.ensures.none
    ]
