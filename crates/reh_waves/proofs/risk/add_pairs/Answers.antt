use Rattle.std.proofs.Common.{◌≡◌, ◌∙◌, ◌<◌, ◌+◌, ◌++◌, ◌∷◌, [], ℕ, List, ap, sym, map, take, get_or, length}
use Rattle.std.proofs.lemmas.List.{append_assoc, map_more}
use Rattle.reh_waves.specs.declared.losses.Lost.{Lost}
use Rattle.reh_waves.specs.declared.losses.Lost.TheVariants.{Pair}
use Rattle.reh_waves.proofs.risk.add_pairs.Goals as goal

-- one pair more
pairs-more : (bookie : ℕ) (before now : List Lost) (others : List ℕ) (i : ℕ) → i < length others
    → now ≡ before ++ map (λ other. Pair bookie other) (take i others)
    → now ++ Pair bookie (get_or others i 0) ∷ [] ≡ before ++ map (λ other. Pair bookie other) (take (i + 1) others)
pairs-more bookie before now others i below were =
    ap (λ (pairs : List Lost). pairs ++ Pair bookie (get_or others i 0) ∷ []) were
    ∙ append_assoc before (map (λ other. Pair bookie other) (take i others)) (Pair bookie (get_or others i 0) ∷ [])
    ∙ ap (λ (pairs : List Lost). before ++ pairs) (sym (map_more (λ (other : ℕ). Pair bookie other) others i 0 below))

pub loop-other-preserved : goal.loop-other-preserved
loop-other-preserved c =
    c.in_ok-push.ensures.items
    ∙ pairs-more c.args.bookie c.args.pairs.now.items c.loop-other.pairs.items c.args.others.now c.loop-other.other-index
    c.loop-other-test.true c.loop-other.invariant
