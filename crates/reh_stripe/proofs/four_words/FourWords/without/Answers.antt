-- In each of the four words.
use Rattle.std.proofs.Common.{◌≡◌, ◌∙◌, ◌^◌, ◌<◌, ◌&&◌, not, ℕ, [], ◌∷◌, slice_index, ap, arith}
use Rattle.std.specs.Prelude.{bit_and}
use Rattle.std.specs.Int.{bit_not, w64}
use Rattle.reh_stripe.specs.Words.{has_bit}
use Rattle.reh_stripe.proofs.FourLaws.{each_of_four}
use Rattle.reh_stripe.proofs.WordLaws.{has_bit-and, has_bit-not}
use Rattle.reh_stripe.proofs.four_words.FourWords.without.Goals as goal

pub returns : goal.returns
returns c = λ k i within inside.
    let left : ℕ → ℕ = slice_index c.args.self.now.words in
    let gone : ℕ → ℕ = slice_index c.args.other.now.words in
    let word : (k : ℕ) → gone k < 2 ^ 64 → has_bit (bit_and (left k) (bit_not w64 (gone k))) i ≡ (has_bit (left k) i && not (has_bit (gone k) i)) =
    λ k small. has_bit-and (left k) (bit_not w64 (gone k)) i ∙ ap (λ b. has_bit (left k) i && b) (has_bit-not (gone k) i small inside) in
    each_of_four
    (λ k. has_bit
    (slice_index
    (bit_and (left 0) (bit_not w64 (gone 0)) ∷ bit_and (left 1) (bit_not w64 (gone 1))
    ∷ bit_and (left 2) (bit_not w64 (gone 2)) ∷ bit_and (left 3) (bit_not w64 (gone 3)) ∷ []) k) i
    ≡ (has_bit (left k) i && not (has_bit (gone k) i)))
    (word 0 (omega arith)) (word 1 (omega arith)) (word 2 (omega arith)) (word 3 (omega arith)) k within
