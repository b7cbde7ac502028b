-- A loss and a join.
use Rattle.std.proofs.Common.{◌≡◌, ℕ, zero, suc, true, List, [], ◌∷◌, refl, ap, Option, None, Some, is_none, false}
use Rattle.std.specs.Prelude.{slice_get}
use Rattle.std.specs.Option.{option_map_or}
use Rattle.reh_types.specs.declared.moves.Event.TheVariants.{Lose, Join}
use Rattle.reh_model.specs.Cluster.{Cluster, is_up, register}
use Rattle.reh_model.specs.Step.{after}

-- a registration that was there is there again
rejoined : (lost_at : List (Option ℕ)) (b tick : ℕ) → option_map_or is_none (slice_get lost_at b) false ≡ true
    → register (register lost_at b (Some tick)) b None ≡ lost_at
rejoined [] b tick up = refl
rejoined (None ∷ lost_at) zero tick up = refl
rejoined (Some lost ∷ lost_at) zero tick up = cc
rejoined (lost ∷ lost_at) (suc b) tick up = ap (λ later. lost ∷ later) (rejoined lost_at b tick up)

pub lose-join : (s : Cluster) (b : ℕ) → is_up s b ≡ true → after (after s (Lose b)) (Join b) ≡ s
lose-join s b up =
    ap (λ lost_at. record s { parts = record s.parts { lost_at = lost_at } })
    (rejoined s.parts.lost_at b s.parts.scalars.clock up)
