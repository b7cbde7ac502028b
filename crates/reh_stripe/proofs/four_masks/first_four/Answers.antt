-- The masks of four words that follow one another.
use Rattle.std.proofs.Common.{◌≡◌, ◌∙◌, ◌+◌, ◌*◌, ◌%◌, [], ◌∷◌, slice_index, ap, arith}
use Rattle.reh_model.specs.Striping.{is_striped}
use Rattle.reh_stripe.specs.Masks.{Sizes}
use Rattle.reh_stripe.specs.Words.{has_bit}
use Rattle.reh_stripe.proofs.FourLaws.{each_of_four}
use Rattle.reh_stripe.proofs.MaskLaws.{start-next}
use Rattle.reh_stripe.proofs.four_masks.first_four.Goals as goal

pub returns : goal.returns
returns c = λ k i within inside.
    let m : Sizes = c.args.masks.now in
    let size : c.args.size ≡ m.size = c.requires.size in
    let none : 0 ≡ (64 * 0) % m.size = omega arith in
    let second : 64 % c.args.size ≡ (64 * 1) % m.size = ap (λ n. 64 % n) size in
    let third : c.wrapped-third.result ≡ (64 * 2) % m.size =
    c.wrapped-third.ensures ∙ start-next 1 1 c.args.size ∙ ap (λ n. (64 * 2) % n) size in
    let fourth : c.wrapped-fourth.result ≡ (64 * 3) % m.size =
    c.wrapped-fourth.ensures
    ∙ ap (λ n. (n + 64 % c.args.size) % c.args.size) (c.wrapped-third.ensures ∙ start-next 1 1 c.args.size)
    ∙ start-next 2 1 c.args.size ∙ ap (λ n. (64 * 3) % n) size in
    each_of_four
    (λ k. has_bit
    (slice_index (c.carried.result ∷ c.carried-2.result ∷ c.carried-3.result ∷ c.carried-4.result ∷ []) k) i
    ≡ is_striped (64 * k + i) c.args.index m.size m.quorum)
    (c.carried.ensures 0 i none inside) (c.carried-2.ensures 1 i second inside) (c.carried-3.ensures 2 i third inside)
    (c.carried-4.ensures 3 i fourth inside) k within
