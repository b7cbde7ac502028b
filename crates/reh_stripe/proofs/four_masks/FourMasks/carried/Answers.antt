-- The masks of the index's rank.
use Rattle.std.proofs.Common.{◌≡◌, ◌∙◌, ◌+◌, ◌-◌, ◌*◌, ◌%◌, ◌<◌, ℕ, slice_index, ap, sym, arith}
use Rattle.std.proofs.lemmas.Nat.{mod_below}
use Rattle.reh_model.specs.Striping.{is_striped, rank_of}
use Rattle.reh_stripe.specs.Masks.{Sizes}
use Rattle.reh_stripe.specs.Words.{has_bit}
use Rattle.reh_stripe.proofs.MaskLaws.{is_striped-moved}
use Rattle.reh_stripe.proofs.four_masks.FourMasks.carried.Goals as goal

pub returns : goal.returns
returns c = λ number k i is within inside.
    let a = c.self.inside in
    let index : ℕ = c.args.index in
    let size : a.size ≡ c.args.self.now.size = ap (λ (v : Sizes). v.size) c.self.view_is in
    let below : index < a.size = omega (arith, size, c.requires.index) in
    let rank : c.rank_from-rank.result ≡ rank_of (64 * number) index a.size =
    c.rank_from-rank.ensures
    ∙ ap (λ n. (index + a.size - n) % a.size) (is ∙ ap (λ n. (64 * number) % n) (sym size)) in
    let rank_in : rank_of (64 * number) index a.size < a.size =
    mod_below (index + a.size - (64 * number) % a.size) a.size (omega (arith, below)) in
    let entry : 64 * number + (64 * k + i) ≡ 64 * (number + k) + i = omega arith in
    ap (λ w. has_bit w i) (c.at.ensures k within)
    ∙ ap (λ n. has_bit (slice_index a.by_index (4 * n + k)) i) rank
    ∙ c.self.invariant.masks (rank_of (64 * number) index a.size) k i rank_in within inside
    ∙ is_striped-moved (64 * number) (64 * k + i) index a.size a.quorum c.self.invariant.some c.self.invariant.within below
    ∙ ap (λ e. is_striped e index a.size a.quorum) entry
    ∙ ap (λ (v : Sizes). is_striped (64 * (number + k) + i) index v.size v.quorum) c.self.view_is
