-- Numbers in decimal digits.
use Rattle.std.proofs.Common.{◌≡◌, ℕ, ◌+◌, ◌*◌, ◌^◌, ◌<◌, ◌≤◌, Bool, true, false, cond, List, length, Option, Some, None, inl, inr, ◌⊎◌, ◌&&◌, drop, slice_index_or, refl, sym, ap, ◌∙◌, arith, rules, lit<}
use Rattle.std.specs.Prelude.{nat_le}
use Rattle.std.specs.Fmt.{decimal}
use Rattle.std.specs.Str.{all_ascii_digits, bytes_eq}
use Rattle.std.specs.Char.{is_ascii_digit}
use Rattle.std.proofs.Math.ListN.{drop_of_length-le}
use Rattle.std.proofs.lemmas.List.{drop_more}
use Rattle.std.proofs.lemmas.Bool.{false≢true}
use Rattle.std.proofs.lemmas.Bool.Decides.{nat_tests}
use Rattle.std.proofs.lemmas.Fmt.{digits_decimal, digits_value-decimal, length-decimal-le}
use Rattle.std.proofs.lemmas.Slice.Eq.{bytes_eq-Decides}
use Rattle.std.proofs.lemmas.Str.Parse.{IsNumeralModel, numerals_by_fold, tells_all_ascii_digits}
use native.Mathlib.Nat.{pow-le-pow_right}
use Rattle.reh_census_file.specs.Reading.{read_on, number_of}

-- one more digit fits 64 bits
pub digits_fit : (v i n : ℕ) → v < 10 ^ i → i < n → n ≤ 19 → v * 10 + 9 < 2 ^ 64
digits_fit v i n h more few = let p : 10 ^ i ≤ 10 ^ 18 = pow-le-pow_right {n = 10} (lit< tt) {i = i} {j = 18} (omega arith) in omega arith

pub own : IsNumeralModel (λ ds. all_ascii_digits ds ≡ true) (read_on 0)
own = numerals_by_fold _ tells_all_ascii_digits read_on (search rules)

-- what is read is written so
pub number_of-some : (word : List ℕ) (n : ℕ) → number_of word ≡ Some n → (word ≡ decimal n) × (n ≤ 2 ^ 63)
unfolding number_of
number_of-some word n is =
    let h = guarded (bytes_eq word (decimal (read_on 0 word))) (nat_le (read_on 0 word) (2 ^ 63)) (read_on 0 word) n is in
    ((bytes_eq-Decides word (decimal (read_on 0 word))).0 h.0 ∙ ap decimal h.2, grind (arith, nat_tests, h.1, h.2))
  where
    guarded : (a b : Bool) (v n : ℕ) → cond (a && b) (Some v) None ≡ Some n → (a ≡ true) × (b ≡ true) × (v ≡ n)
    guarded true true v n e = (refl, refl, cc)
    guarded true false v n e = absurd cc
    guarded false b v n e = absurd cc

-- and what is written so is read
pub number_of-decimal : (n : ℕ) → n ≤ 2 ^ 63 → number_of (decimal n) ≡ Some n
unfolding number_of
number_of-decimal n small =
    let value : read_on 0 (decimal n) ≡ n = digits_value-decimal own n (omega arith) in
    let same : bytes_eq (decimal n) (decimal n) ≡ true = (bytes_eq-Decides (decimal n) (decimal n)).1 refl in
    let low : nat_le n (2 ^ 63) ≡ true = grind (arith, nat_tests) in
    rw value (rw (same, low) refl)

-- what is no number is none
pub number_of-none : (word : List ℕ) → ((n : ℕ) → n ≤ 2 ^ 63 → word ≡ decimal n → ⊥) → number_of word ≡ None
number_of-none word none = go (number_of word) refl
  where
    go : (o : Option ℕ) → number_of word ≡ o → number_of word ≡ None
    go None e = e
    go (Some n) e = let h = number_of-some word n e in absurd (none n h.1 h.0)

-- no number has more than 19 digits
pub number_of-long : (word : List ℕ) → 19 < length word → number_of word ≡ None
number_of-long word long = number_of-none word (λ n small is. absurd (omega (arith, length-decimal-le 19 n (lit< tt) (omega arith) (omega arith), ap length is)))

-- all of it are digits
pub number_of-digits : (word : List ℕ) → all_ascii_digits word ≡ false → number_of word ≡ None
number_of-digits word other = number_of-none word (λ n small is. let digits = digits_decimal own n (omega arith) in absurd (false≢true (sym other ∙ ap all_ascii_digits is ∙ digits)))

-- none is greater than 2^63, or has other digits than its value
pub number_of-other : (word : List ℕ) (v : ℕ) → v ≡ read_on 0 word → (bytes_eq (decimal v) word ≡ false) ⊎ (2 ^ 63 < v) → number_of word ≡ None
unfolding number_of
number_of-other word v is (inl other) =
    number_of-none word (λ n small same. let value : read_on 0 (decimal n) ≡ n = digits_value-decimal own n (omega arith) in
    let v-is : v ≡ n = is ∙ ap (read_on 0) same ∙ value in
    absurd (false≢true (sym other ∙ (bytes_eq-Decides (decimal v) word).1 (ap decimal v-is ∙ sym same))))
number_of-other word v is (inr large) =
    number_of-none word (λ n small same. let value : read_on 0 (decimal n) ≡ n = digits_value-decimal own n (omega arith) in
    let v-is : v ≡ n = is ∙ ap (read_on 0) same ∙ value in absurd (omega arith))

-- the value of the digits is the number
pub number_of-value : (word : List ℕ) (v : ℕ) → v ≡ read_on 0 word → bytes_eq (decimal v) word ≡ true → v ≤ 2 ^ 63 → number_of word ≡ Some v
number_of-value word v is same small = ap number_of (sym ((bytes_eq-Decides (decimal v) word).0 same)) ∙ number_of-decimal v small

-- where the digits end, their value is that of all of them
pub value_at_end : (word : List ℕ) (v i : ℕ) → length word ≤ i → read_on v (drop i word) ≡ read_on 0 word → v ≡ read_on 0 word
value_at_end word v i past is = sym (ap (read_on v) (drop_of_length-le word past)) ∙ is

-- what has another byte aren't all digits
pub other_byte : (word : List ℕ) (i : ℕ) → i < length word → is_ascii_digit (slice_index_or word i 0) ≡ false → all_ascii_digits (drop i word) ≡ false
other_byte word i within other = ap all_ascii_digits (drop_more word i 0 within) ∙ ap (λ b. b && all_ascii_digits (drop (i + 1) word)) other
