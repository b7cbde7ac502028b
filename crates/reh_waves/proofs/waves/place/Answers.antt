use Rattle.std.proofs.Common.{ℕ, Bool, subst}
use Rattle.reh_waves.specs.Near.{IsNear}
use Rattle.reh_waves.proofs.waves.place.Goals as goal

pub put-requires-clause-near : goal.put-requires-clause-near
put-requires-clause-near c =
    subst (λ (among : ℕ → Bool). IsNear c.args.census.now c.in_ok-near.near among) (λ i b. c.in_ok-among.ensures b i) c.in_ok-near.ensures
