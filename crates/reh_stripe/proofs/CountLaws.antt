-- Counts over ranges, and the ones of a number.
use Rattle.std.proofs.Common.{◌≡◌, ℕ, zero, suc, ◌+◌, ◌*◌, ◌/◌, ◌%◌, ◌<◌, ◌^◌, Bool, cond, List, [], ◌∷◌, length}
use Rattle.std.proofs.Common.{refl, sym, ap, ◌∙◌, arith}
use Rattle.std.specs.Prelude.{◌==◌, count_by}
use Rattle.std.specs.List.{range_with_len}
use Rattle.std.specs.Int.{bit_at}
use Rattle.std.specs.Int.Count.{ones}
use Rattle.std.proofs.lemmas.Nat.{ones_cat, shr_split, mod_below, pow_pos, shr_below}
use Rattle.std.proofs.lemmas.Nat.Bits.{bit_at_cat_low}
use Rattle.std.proofs.lemmas.List.Sums.{sum_by-cons, sum_by-append, length-filter}
use Rattle.reh_stripe.specs.declared.words.Word.{Word}
use Rattle.reh_stripe.specs.Words.{entries_in}
use Rattle.reh_stripe.proofs.WordLaws.{in_word-bit, range-append}
use Rattle.reh_model.specs.Contents.{is_in_word}

module _ (p : ℕ → Bool) where
  pub count-cons : (x : ℕ) (xs : List ℕ) → count_by p (x ∷ xs) ≡ cond (p x) 1 0 + count_by p xs
  count-cons x xs = sum_by-cons (λ y. cond (p y) 1 0) x xs

-- tests that answer alike over a range, where one is moved along
pub count-range : (p q : ℕ → Bool) (a b n : ℕ) → ((i : ℕ) → i < n → p (a + i) ≡ q (b + i))
    → count_by p (range_with_len a n) ≡ count_by q (range_with_len b n)
count-range p q a b zero alike = refl
count-range p q a b (suc n) alike =
    let rest : count_by p (range_with_len (a + 1) n) ≡ count_by q (range_with_len (b + 1) n) =
    count-range p q (a + 1) (b + 1) n (λ i within.
    let left : (a + 1) + i ≡ a + (i + 1) = omega arith in
    let right : b + (i + 1) ≡ (b + 1) + i = omega arith in
    ap p left ∙ alike (i + 1) (omega arith) ∙ ap q right) in
    let none : a ≡ a + 0 = omega arith in
    let nil : b + 0 ≡ b = omega arith in
    let first : p a ≡ q b = ap p none ∙ alike 0 (omega arith) ∙ ap q nil in
    count-cons p a (range_with_len (a + 1) n)
    ∙ (λ i. cond (first i) 1 0 + rest i)
    ∙ sym (count-cons q b (range_with_len (b + 1) n))

pub count-append : (p : ℕ → Bool) (a m n : ℕ)
    → count_by p (range_with_len a (m + n)) ≡ count_by p (range_with_len a m) + count_by p (range_with_len (a + m) n)
count-append p a m n =
    ap (λ (xs : List ℕ). count_by p xs) (range-append a m n)
    ∙ sum_by-append (λ x. cond (p x) 1 0) (range_with_len a m) (range_with_len (a + m) n)

one_number : (p : ℕ → Bool) (a : ℕ) → count_by p (range_with_len a 1) ≡ cond (p a) 1 0
one_number p a = count-cons p a [] ∙ (let none : cond (p a) 1 0 + 0 ≡ cond (p a) 1 0 = omega arith in none)

-- The ones of a number

one_bit : (b : ℕ) → b < 2 → cond (b == 1) 1 0 ≡ ones b
unfolding ones
one_bit zero within = refl
one_bit (suc zero) within = refl
one_bit (suc (suc b)) within = absurd (omega arith)

low_bit : (b : ℕ) → b < 2 → b % 2 ≡ b
low_bit b within = omega arith

no_ones : (w : ℕ) → w < 1 → 0 ≡ ones w
unfolding ones
no_ones zero within = refl
no_ones (suc w) within = absurd (omega arith)

pub count-ones : (k w : ℕ) → w < 2 ^ k → count_by (λ i. bit_at w i == 1) (range_with_len 0 k) ≡ ones w
count-ones zero w within = no_ones w within
count-ones (suc k) w within =
    let high : ℕ = w / 2 ^ k in
    let low : ℕ = w % 2 ^ k in
    let split : high * 2 ^ k + low ≡ w = shr_split w k in
    let low_below : low < 2 ^ k = mod_below w (2 ^ k) (pow_pos k) in
    let more : suc k ≡ 1 + k = omega arith in
    let high_below : high < 2 = shr_below w 1 k (rw (← more) within) in
    let length_more : suc k ≡ k + 1 = omega arith in
    let none : 0 + k ≡ k = omega arith in
    ap (λ n. count_by (λ i. bit_at w i == 1) (range_with_len 0 n)) length_more
    ∙ count-append (λ i. bit_at w i == 1) 0 k 1
    ∙ (λ j.
    (count-range (λ i. bit_at w i == 1) (λ i. bit_at low i == 1) 0 0 k
    (λ i inside. ap (λ (n : ℕ). bit_at n (0 + i) == 1) (sym split)
    ∙ ap (λ (b : ℕ). b == 1) (bit_at_cat_low high k low (0 + i) (omega arith)))
    ∙ count-ones k low low_below)
    j
    + (one_number (λ i. bit_at w i == 1) (0 + k) ∙ ap (λ n. cond (bit_at w n == 1) 1 0) none
    ∙ ap (λ (b : ℕ). cond (b == 1) 1 0) (low_bit high high_below) ∙ one_bit high high_below)
    j)
    ∙ (let turn : ones low + ones high ≡ ones high + ones low = omega arith in turn)
    ∙ sym (ones_cat k high low low_below)
    ∙ ap ones split

-- a word has as many entries as ones
pub ones-entries : (w : Word) → w.bits < 2 ^ 64 → length (entries_in w) ≡ ones w.bits
unfolding entries_in
ones-entries w small =
    length-filter (is_in_word w.number w.bits) (range_with_len (64 * w.number) 64)
    ∙ count-range (is_in_word w.number w.bits) (λ i. bit_at w.bits i == 1) (64 * w.number) 0 64 (λ i inside.
    let none : i ≡ 0 + i = omega arith in
    in_word-bit w.number w.bits i inside ∙ ap (λ n. bit_at w.bits n == 1) none)
    ∙ count-ones 64 w.bits small
