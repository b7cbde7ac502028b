-- Each of the four words has the bits of its entries.
use Rattle.std.proofs.Common.{◌≡◌, ◌∙◌, ◌+◌, ◌*◌, ◌&&◌, ℕ, true, [], ◌∷◌, slice_index, nat_le, ap, sym, arith}
use Rattle.std.proofs.lemmas.Bool.Decides.{nat_tests}
use Rattle.std.proofs.lemmas.Nat.Bits.{bit_at_ones}
use Rattle.std.specs.Prelude.{◌==◌}
use Rattle.reh_stripe.specs.Words.{has_bit, is_between}
use Rattle.reh_stripe.proofs.FourLaws.{each_of_four}
use Rattle.reh_stripe.proofs.four_words.FourWords.between.Goals as goal

pub returns-then-last-number-ge255 : goal.returns-then-last-number-ge255
returns-then-last-number-ge255 c = λ k i within inside.
    let entry : ℕ = 64 * (c.args.number + k) + i in
    let all : ℕ = 18446744073709551615 in
    let from : nat_le c.args.first entry ≡ true = grind (arith, nat_tests) in
    let to : nat_le entry c.args.last ≡ true = grind (arith, nat_tests) in
    let one : has_bit all i ≡ true = ap (λ (b : ℕ). b == 1) (bit_at_ones 64 i inside) in
    each_of_four (λ k. has_bit (slice_index (all ∷ all ∷ all ∷ all ∷ []) k) i ≡ true) one one one one k within
    ∙ (λ j. sym from j && sym to j)

pub returns : goal.returns
returns c = λ k i within inside.
    let first : 64 * c.args.number + i ≡ 64 * (c.args.number + 0) + i = omega arith in
    each_of_four
    (λ k. has_bit
    (slice_index (c.bits_between.result ∷ c.bits_to.result ∷ c.bits_to-2.result ∷ c.bits_to-3.result ∷ []) k) i
    ≡ is_between c.args.first c.args.last (64 * (c.args.number + k) + i))
    (c.bits_between.ensures i inside ∙ ap (is_between c.args.first c.args.last) first)
    (c.bits_to.ensures i inside) (c.bits_to-2.ensures i inside) (c.bits_to-3.ensures i inside) k within
