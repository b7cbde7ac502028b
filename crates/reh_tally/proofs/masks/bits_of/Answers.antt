use Rattle.std.proofs.Common.{◌∙◌, ◌++◌, ◌∷◌, [], List, ℕ, map, ap, sym, get_or, take}
use Rattle.std.proofs.lemmas.List.{map_push, take_more}
use Rattle.reh_tally.specs.Masks.{bit_of}
use Rattle.reh_tally.proofs.masks.bits_of.Goals as goal

pub loop-bookie-preserved : goal.loop-bookie-preserved
loop-bookie-preserved c =
    let names : List ℕ = c.args.ensemble.now in
    let n : ℕ = c.loop-bookie.bookie-index in
    let f : ℕ → ℕ = bit_of c.args.members.now in
    c.in_ok-push.ensures.items ∙ (λ i. c.loop-bookie.invariant i ++ c.bit_of.ensures i ∷ [])
    ∙ sym (map_push f (take n names) (get_or names n 0))
    ∙ ap (λ (passed : List ℕ). map f passed) (sym (take_more names n 0 c.loop-bookie-test.true))
