-- Rows that have the same entries have the same words: a word has 64 bits and no more.
use Rattle.std.proofs.Common.{◌≡◌, ℕ, ◌+◌, ◌*◌, ◌/◌, ◌%◌, ◌^◌, ◌<◌, List, get_or, sym, ◌∙◌, arith, nat_eq}
use Rattle.std.specs.Int.{bit_at}
use Rattle.std.proofs.lemmas.Bool.Decides.{nat_tests}
use Rattle.std.proofs.lemmas.Nat.Bits.{bit_at-lt, same_from_bits_below}
use Rattle.reh_held.specs.Rows.{is_set}

-- bits that are tested alike
same_bit : (a b : ℕ) → a < 2 → b < 2 → nat_eq a 1 ≡ nat_eq b 1 → a ≡ b
same_bit a b a_in b_in alike = grind (arith, nat_tests)

-- the bit of an entry
entry_bit : (words : List ℕ) (k b : ℕ) → b < 64 → is_set words (64 * k + b) ≡ nat_eq (bit_at (get_or words k 0) b) 1
entry_bit words k b within =
    let word : (64 * k + b) / 64 ≡ k = omega (arith, within) in
    let bit : (64 * k + b) % 64 ≡ b = omega (arith, within) in
    λ i. nat_eq (bit_at (get_or words (word i) 0) (bit i)) 1

-- words at one place, where the rows have the same entries
pub word_at : (words others : List ℕ) (k : ℕ) → get_or words k 0 < 2 ^ 64 → get_or others k 0 < 2 ^ 64
    → ((e : ℕ) → is_set words e ≡ is_set others e) → get_or words k 0 ≡ get_or others k 0
word_at words others k small others_small alike =
    same_from_bits_below 64 (get_or words k 0) (get_or others k 0) small others_small (λ b within.
    same_bit (bit_at (get_or words k 0) b) (bit_at (get_or others k 0) b) (bit_at-lt _ _) (bit_at-lt _ _)
    (sym (entry_bit words k b within) ∙ alike (64 * k + b) ∙ entry_bit others k b within))
