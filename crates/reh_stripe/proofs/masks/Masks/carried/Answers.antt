-- The mask of the index's rank.
use Rattle.std.proofs.Common.{◌≡◌, ◌∙◌, ◌+◌, ◌-◌, ◌*◌, ◌%◌, ℕ, ap, sym, ◌<◌, slice_index, arith}
use Rattle.reh_model.specs.Striping.{is_striped, rank_of}
use Rattle.reh_stripe.specs.Masks.{Sizes}
use Rattle.reh_stripe.specs.Words.{has_bit}
use Rattle.reh_stripe.proofs.MaskLaws.{has_bit-mask}
use Rattle.reh_stripe.proofs.masks.Masks.carried.Goals as goal

pub returns : goal.returns
returns c = λ number i is inside.
    let a = c.self.inside in
    let index : ℕ = c.args.index in
    let size : a.size ≡ c.args.self.now.size = ap (λ (v : Sizes). v.size) c.self.view_is in
    let below : index < a.size = omega (arith, size, c.requires.index) in
    let rank : c.rank_from.result ≡ rank_of (64 * number) index a.size =
    c.rank_from.ensures
    ∙ ap (λ n. (index + a.size - n) % a.size) (is ∙ ap (λ n. (64 * number) % n) (sym size)) in
    ap (λ n. has_bit (slice_index a.by_index n) i) rank
    ∙ has_bit-mask a.by_index a.size a.quorum number i index c.self.invariant.some c.self.invariant.within below inside
    c.self.invariant.masks
    ∙ ap (λ (v : Sizes). is_striped (64 * number + i) index v.size v.quorum) c.self.view_is
