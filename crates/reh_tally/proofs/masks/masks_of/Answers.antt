use Rattle.std.proofs.Common.{◌≡◌, ◌∙◌, ◌+◌, ◌-◌, ◌++◌, ◌∷◌, [], ℕ, List, map, ap, sym, arith}
use Rattle.std.specs.List.{range_with_len}
use Rattle.std.proofs.lemmas.List.FromFn.{map-range_with_len_more}
use Rattle.reh_census.specs.Ledgers.{carries}
use Rattle.reh_tally.specs.Masks.{bit_of, mask_of}
use Rattle.reh_tally.proofs.masks.masks_of.Goals as goal

pub loop-remainder-preserved : goal.loop-remainder-preserved
loop-remainder-preserved c =
    let f : ℕ → ℕ = λ remainder. mask_of (carries c.args.ledger.now c.args.fragment.now remainder) c.args.members.now in
    let n : ℕ = c.loop-remainder.remainder in
    let long : (n - 0) + 1 ≡ (n + 1) - 0 = omega arith in
    let bits : c.deref.result.now ≡ map (bit_of c.args.members.now) c.args.fragment.now.ensemble =
    c.deref.ensures.value ∙ c.in_ok-bits.ensures ∙ ap (λ (names : List ℕ). map (bit_of c.args.members.now) names) c.as_slice.ensures in
    c.in_ok-push.ensures.items
    ∙ (λ i. c.loop-remainder.invariant i ++ c.mask_at-mask.ensures c.args.members.now c.args.fragment.now bits i ∷ [])
    ∙ sym (map-range_with_len_more f 0 (n - 0) n (omega arith))
    ∙ ap (λ k. map f (range_with_len 0 k)) long
