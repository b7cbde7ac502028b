-- Bits of words, and the entries that they stand for.
use Rattle.std.proofs.Common.{◌≡◌, ◌≢◌, ◌∙◌, ◌+◌, ◌-◌, ◌*◌, ◌/◌, ◌%◌, ◌^◌, ◌<◌, ◌≤◌, ◌&&◌, ◌||◌, not, Bool, true, false}
use Rattle.std.proofs.Common.{cond, List, [], ◌∷◌, ◌++◌, map, ℕ, zero, suc, refl, ap, sym, arith, inl, inr}
use Rattle.std.proofs.Common.{nat_eq, nat_le, nat_lt, None, Some}
use Rattle.std.specs.Prelude.{◌==◌, bit_and, bit_or, max, min, slice_get}
use Rattle.std.specs.Int.{bit_at, bit_not, w64, trailing_zeros}
use Rattle.std.specs.List.{filter, find, list_any, range_with_len}
use Rattle.std.specs.Cmp.{unsigned_tied}
use Rattle.std.specs.Ordering.{nat_cmp, eq_by_cmp}
use Rattle.std.proofs.lemmas.Bool.{cases_lt}
use Rattle.reh_types.proofs.BitLaws.{any_filtered, in_range}
use Rattle.std.proofs.lemmas.Bool.Decides.{nat_tests}
use Rattle.std.proofs.lemmas.List.Elements.{filter-append}
use Rattle.std.proofs.lemmas.Nat.Bits.{bit_at-lt, bit_at-zero, bit_at_lowest, bit_at-suc, bit_at_and, bit_at_or, bit_at_not}
use Rattle.std.proofs.lemmas.Nat.Bits.{ones_shl, ones_shr, bit_at_mask_inside, bit_at_mask_below, bit_at_ones}
use Rattle.std.proofs.lemmas.Nat.Bits.{bit_at_ones_above, bit_at-trailing_zeros, same_from_bits_below}
use Rattle.reh_model.specs.Contents.{is_in_word}
use Rattle.reh_model.specs.Striping.{range, is_striped, striped_entries}
use Rattle.reh_model.proofs.Ranges.{find_first, find_none, list_any-same}
use Rattle.reh_model.proofs.StripingLaws.{striped_entries-nil, striped_entries-outside}
use Rattle.reh_stripe.specs.declared.words.Word.{Word}
use Rattle.reh_stripe.specs.Words.{has_bit, is_between, bits_from, word_of, entries_in, entries_of, AreRising, end_word}

-- Bits

one_min : (a b : ℕ) → a < 2 → b < 2 → (min a b == 1) ≡ ((a == 1) && (b == 1))
one_min a b a_in b_in = grind (arith, nat_tests)

one_max : (a b : ℕ) → a < 2 → b < 2 → (max a b == 1) ≡ ((a == 1) || (b == 1))
one_max a b a_in b_in = grind (arith, nat_tests)

one_less : (b : ℕ) → b < 2 → ((1 - b) == 1) ≡ not (b == 1)
one_less b b_in = grind (arith, nat_tests)

pub has_bit-none : (i : ℕ) → has_bit 0 i ≡ false
has_bit-none i = ap (λ (b : ℕ). b == 1) (bit_at-zero i)

pub has_bit-and : (v w i : ℕ) → has_bit (bit_and v w) i ≡ (has_bit v i && has_bit w i)
has_bit-and v w i =
    ap (λ (b : ℕ). b == 1) (bit_at_and v w i) ∙ one_min (bit_at v i) (bit_at w i) (bit_at-lt v i) (bit_at-lt w i)

pub has_bit-or : (v w i : ℕ) → has_bit (bit_or v w) i ≡ (has_bit v i || has_bit w i)
has_bit-or v w i =
    ap (λ (b : ℕ). b == 1) (bit_at_or v w i) ∙ one_max (bit_at v i) (bit_at w i) (bit_at-lt v i) (bit_at-lt w i)

pub has_bit-not : (w i : ℕ) → w < 2 ^ 64 → i < 64 → has_bit (bit_not w64 w) i ≡ not (has_bit w i)
has_bit-not w i within inside =
    ap (λ (b : ℕ). b == 1) (bit_at_not w64 w i within inside) ∙ one_less (bit_at w i) (bit_at-lt w i)

-- The bits of a range

bits_up : (low i : ℕ) → low < 64 → i < 64 → has_bit ((2 ^ 64 - 1) * 2 ^ low % 2 ^ 64) i ≡ nat_le low i
bits_up low i within inside =
    ap (λ (n : ℕ). bit_at n i == 1) (ones_shl 64 low (omega arith))
    ∙ elim (cases_lt i low) [
      | inl below ↦
          let no : nat_le low i ≡ false = grind (arith, nat_tests) in
          ap (λ (b : ℕ). b == 1) (bit_at_mask_below low 64 i below) ∙ sym no
      | inr from ↦
          let yes : nat_le low i ≡ true = grind (arith, nat_tests) in
          ap (λ (b : ℕ). b == 1) (bit_at_mask_inside low 64 i from inside) ∙ sym yes
    ]

bits_to : (high i : ℕ) → high < 64 → i < 64 → has_bit ((2 ^ 64 - 1) / 2 ^ (63 - high)) i ≡ nat_le i high
bits_to high i within inside =
    let left : 64 - (63 - high) ≡ high + 1 = omega arith in
    ap (λ (n : ℕ). bit_at n i == 1) (ones_shr 64 (63 - high) (omega arith) ∙ ap (λ n. 2 ^ n - 1) left)
    ∙ elim (cases_lt high i) [
      | inl past ↦
          let no : nat_le i high ≡ false = grind (arith, nat_tests) in
          ap (λ (b : ℕ). b == 1) (bit_at_ones_above (high + 1) i (omega arith)) ∙ sym no
      | inr reached ↦
          let yes : nat_le i high ≡ true = grind (arith, nat_tests) in
          ap (λ (b : ℕ). b == 1) (bit_at_ones (high + 1) i (omega arith)) ∙ sym yes
    ]

same_le : (a b c d : ℕ) → (a ≤ b → c ≤ d) → (c ≤ d → a ≤ b) → nat_le a b ≡ nat_le c d
same_le a b c d there back = elim (cases_lt b a) [
  | inl past ↦ elim (cases_lt d c) [
    | inl off ↦
        let no : nat_le a b ≡ false = grind (arith, nat_tests) in
        let none : nat_le c d ≡ false = grind (arith, nat_tests) in no ∙ sym none
    | inr on ↦ let is : a ≤ b = back on in absurd (omega arith)
  ]
  | inr reached ↦
      let is : c ≤ d = there reached in
      let yes : nat_le a b ≡ true = grind (arith, nat_tests) in
      let one : nat_le c d ≡ true = grind (arith, nat_tests) in yes ∙ sym one
]

pub mask-bits : (number first last i : ℕ) → first < 64 * number + 64 → 64 * number ≤ last → i < 64
    → has_bit
    (bit_and ((2 ^ 64 - 1) * 2 ^ (first - 64 * number) % 2 ^ 64)
    ((2 ^ 64 - 1) / 2 ^ (63 - min (last - 64 * number) 63)))
    i
    ≡ is_between first last (64 * number + i)
mask-bits number first last i from to inside =
    let low : ℕ = first - 64 * number in
    let high : ℕ = min (last - 64 * number) 63 in
    let below : low < 64 = omega arith in
    let within : high < 64 = omega arith in
    has_bit-and ((2 ^ 64 - 1) * 2 ^ low % 2 ^ 64) ((2 ^ 64 - 1) / 2 ^ (63 - high)) i
    ∙ (λ j.
    (bits_up low i below inside ∙ same_le low i first (64 * number + i) (λ h. omega arith) (λ h. omega arith)) j
    && (bits_to high i within inside ∙ same_le i high (64 * number + i) last (λ h. omega arith) (λ h. omega arith)) j)

-- The bits of entries that pass a test

bit-first : (b : Bool) (n : ℕ) → (cond b 1 0 + 2 * n) % 2 == 1 ≡ b
bit-first true n = let odd : (1 + 2 * n) % 2 ≡ 1 = omega arith in ap (λ (m : ℕ). m == 1) odd
bit-first false n = let even : (0 + 2 * n) % 2 ≡ 0 = omega arith in ap (λ (m : ℕ). m == 1) even

half : (b : Bool) (n : ℕ) → (cond b 1 0 + 2 * n) / 2 ≡ n
half true n = omega arith
half false n = omega arith

pub has_bit-from : (test : ℕ → Bool) (a n i : ℕ) → i < n → has_bit (bits_from test a n) i ≡ test (a + i)
unfolding bits_from
has_bit-from test a zero i inside = absurd (omega arith)
has_bit-from test a (suc n) zero inside =
    let none : a ≡ a + 0 = omega arith in
    ap (λ (b : ℕ). b == 1) (bit_at_lowest (cond (test a) 1 0 + 2 * bits_from test (a + 1) n))
    ∙ bit-first (test a) (bits_from test (a + 1) n) ∙ ap test none
has_bit-from test a (suc n) (suc i) inside =
    let next : (a + 1) + i ≡ a + suc i = omega arith in
    ap (λ (b : ℕ). b == 1)
    (bit_at-suc (cond (test a) 1 0 + 2 * bits_from test (a + 1) n) i
    ∙ ap (λ n. bit_at n i) (half (test a) (bits_from test (a + 1) n)))
    ∙ has_bit-from test (a + 1) n i (omega arith) ∙ ap test next

-- A word has 64 bits
from-small : (test : ℕ → Bool) (a n : ℕ) → bits_from test a n < 2 ^ n
unfolding bits_from
from-small test a zero = omega arith
from-small test a (suc n) =
    let rest = from-small test (a + 1) n in
    elim (test a) as (λ b. cond b 1 0 + 2 * bits_from test (a + 1) n < 2 ^ suc n) [
      | true ↦ omega (arith, rest)
      | false ↦ omega (arith, rest)
    ]

-- Entries

module _ (p q : ℕ → Bool) where
  -- tests that give the same answers over a range leave the same of it
  pub filter-range : (a n : ℕ) → ((i : ℕ) → i < n → p (a + i) ≡ q (a + i))
      → filter p (range_with_len a n) ≡ filter q (range_with_len a n)
  filter-range a zero same = refl
  filter-range a (suc n) same =
      let none : a ≡ a + 0 = omega arith in
      let nil : a + 0 ≡ a = omega arith in
      let first : p a ≡ q a = ap p none ∙ same 0 (omega arith) ∙ ap q nil in
      let rest : filter p (range_with_len (a + 1) n) ≡ filter q (range_with_len (a + 1) n) =
      filter-range (a + 1) n (λ i inside.
      let left : (a + 1) + i ≡ a + (i + 1) = omega arith in
      let right : a + (i + 1) ≡ (a + 1) + i = omega arith in
      ap p left ∙ same (i + 1) (omega arith) ∙ ap q right) in
      λ j. cond (first j) (a ∷ rest j) (rest j)

-- whether an entry of the word is one whose bit is set
pub in_word-bit : (number bits i : ℕ) → i < 64 → is_in_word number bits (64 * number + i) ≡ has_bit bits i
in_word-bit number bits i inside =
    let word : ((64 * number + i) / 64 == number) ≡ true = grind (arith, nat_tests) in
    let bit : (64 * number + i) % 64 ≡ i = omega (arith, inside) in
    λ j. word j && has_bit bits (bit j)

-- what is left of a word's entries, by the bits that are left
pub entries-filtered : (w : Word) (bits : ℕ) (p : ℕ → Bool)
    → ((i : ℕ) → i < 64 → has_bit bits i ≡ (has_bit w.bits i && p (64 * w.number + i)))
    → filter p (entries_in w) ≡ entries_in (record { number = w.number; bits = bits })
unfolding entries_in
entries-filtered w bits p left =
    filter-twice (is_in_word w.number w.bits) p (range_with_len (64 * w.number) 64)
    ∙ filter-range (λ e. is_in_word w.number w.bits e && p e) (is_in_word w.number bits) (64 * w.number) 64
    (λ i inside.
    (λ j. in_word-bit w.number w.bits i inside j && p (64 * w.number + i))
    ∙ sym (left i inside) ∙ sym (in_word-bit w.number bits i inside)) where
      filter-twice : (p q : ℕ → Bool) (xs : List ℕ) → filter q (filter p xs) ≡ filter (λ x. p x && q x) xs
      filter-twice p q [] = refl
      filter-twice p q (x ∷ xs) =
          elim (p x) as (λ b. filter q (cond b (x ∷ filter p xs) (filter p xs))
          ≡ cond (b && q x) (x ∷ filter (λ x. p x && q x) xs) (filter (λ x. p x && q x) xs)) [
            | true ↦ ap (λ xs. cond (q x) (x ∷ xs) xs) (filter-twice p q xs)
            | false ↦ filter-twice p q xs
          ]

-- what is found is the first of what is left
pub find-first : {X : Type 0} (p : X → Bool) (xs : List X) → find p xs ≡ slice_get (filter p xs) 0
find-first p [] = refl
find-first p (x ∷ xs) =
    elim (p x) as (λ b. cond b (Some x) (find p xs) ≡ slice_get (cond b (x ∷ filter p xs) (filter p xs)) 0) [
      | true ↦ refl
      | false ↦ find-first p xs
    ]

pub find-in_word : (w : Word) (bits : ℕ) (p : ℕ → Bool)
    → ((i : ℕ) → i < 64 → has_bit bits i ≡ (has_bit w.bits i && p (64 * w.number + i)))
    → find p (entries_in w) ≡ slice_get (entries_in (record { number = w.number; bits = bits })) 0
find-in_word w bits p left =
    find-first p (entries_in w) ∙ ap (λ (es : List ℕ). slice_get es 0) (entries-filtered w bits p left)

-- The least entry

-- a word that is not 0 has a least bit
pub record IsLeast (bits i : ℕ) : Type 0 where
  pub inside : i < 64
  pub set : has_bit bits i ≡ true
  pub before : (j : ℕ) → j < i → has_bit bits j ≡ false

pub least-bit : (bits : ℕ) → bits ≢ 0 → bits < 2 ^ 64 → IsLeast bits (trailing_zeros w64 bits)
least-bit bits some small =
    let h = bit_at-trailing_zeros w64 bits (omega (arith, some)) small in
    record {
      inside = h.0;
      set = ap (λ (b : ℕ). b == 1) h.1;
      before = λ j below. ap (λ (b : ℕ). b == 1) (h.2 j below);
    }

pub least-none : (number : ℕ) → slice_get (entries_in (record { number = number; bits = 0 })) 0 ≡ None
unfolding entries_in
least-none number =
    sym (find-first (is_in_word number 0) (range_with_len (64 * number) 64))
    ∙ find_none (is_in_word number 0) (64 * number) 64 (λ e from below.
    nothing (e / 64 == number) _ (has_bit-none (e % 64))) where
      nothing : (a b : Bool) → b ≡ false → (a && b) ≡ false
      nothing true b none = none
      nothing false b none = refl

pub least-some : (number bits i : ℕ) → IsLeast bits i
    → slice_get (entries_in (record { number = number; bits = bits })) 0 ≡ Some (64 * number + i)
unfolding entries_in
least-some number bits i least =
    let inside = least.inside in
    sym (find-first (is_in_word number bits) (range_with_len (64 * number) 64))
    ∙ find_first (is_in_word number bits) (64 * number) 64 (64 * number + i) (omega (arith, inside)) (record {
      from = omega arith;
      passes = in_word-bit number bits i inside ∙ least.set;
      before = λ e from below.
          let at : e ≡ 64 * number + (e - 64 * number) = omega (arith, from) in
          ap (is_in_word number bits) at ∙ in_word-bit number bits (e - 64 * number) (omega (arith, inside, below, from))
          ∙ least.before (e - 64 * number) (omega (arith, below, from));
    })

-- Words of a range

pub range-append : (a m n : ℕ) → range_with_len a (m + n) ≡ range_with_len a m ++ range_with_len (a + m) n
range-append a zero n =
    let same : a ≡ a + 0 = omega arith in
    let none : 0 + n ≡ n = omega arith in ap (range_with_len a) none ∙ ap (λ b. range_with_len b n) same
range-append a (suc m) n =
    let more : suc m + n ≡ suc (m + n) = omega arith in
    let moved : (a + 1) + m ≡ a + suc m = omega arith in
    ap (range_with_len a) more
    ∙ ap (λ xs. a ∷ xs) (range-append (a + 1) m n ∙ ap (λ b. range_with_len (a + 1) m ++ range_with_len b n) moved)

-- the entries of a word that pass a test
pub entries-word_of : (test : ℕ → Bool) (number : ℕ)
    → entries_in (word_of test number) ≡ filter test (range_with_len (64 * number) 64)
unfolding entries_in
entries-word_of test number =
    filter-range (is_in_word number (bits_from test (64 * number) 64)) test (64 * number) 64 (λ i inside.
    in_word-bit number (bits_from test (64 * number) 64) i inside ∙ has_bit-from test (64 * number) 64 i inside)

pub entries-words : (test : ℕ → Bool) (a n : ℕ)
    → entries_of (map (word_of test) (range_with_len a n)) ≡ filter test (range_with_len (64 * a) (64 * n))
entries-words test a zero = let none : 64 * 0 ≡ 0 = omega arith in ap (λ k. filter test (range_with_len (64 * a) k)) (sym none)
entries-words test a (suc n) =
    let next : 64 * (a + 1) ≡ 64 * a + 64 = omega arith in
    let more : 64 + 64 * n ≡ 64 * suc n = omega arith in
    (λ i. entries-word_of test a i
    ++ (entries-words test (a + 1) n ∙ ap (λ k. filter test (range_with_len k (64 * n))) next) i)
    ∙ sym (filter-append test (range_with_len (64 * a) 64) (range_with_len (64 * a + 64) (64 * n)))
    ∙ ap (λ (es : List ℕ). filter test es) (sym (range-append (64 * a) 64 (64 * n)))
    ∙ ap (λ k. filter test (range_with_len (64 * a) k)) more

-- what is left of a range in which nothing passes
filter-none : (p : ℕ → Bool) (a n : ℕ) → ((i : ℕ) → i < n → p (a + i) ≡ false) → filter p (range_with_len a n) ≡ []
filter-none p a zero none = refl
filter-none p a (suc n) none =
    let here : a ≡ a + 0 = omega arith in
    let first : p a ≡ false = ap p here ∙ none 0 (omega arith) in
    ap (λ b. cond b (a ∷ filter p (range_with_len (a + 1) n)) (filter p (range_with_len (a + 1) n))) first
    ∙ filter-none p (a + 1) n (λ i inside.
    let next : (a + 1) + i ≡ a + (i + 1) = omega arith in ap p next ∙ none (i + 1) (omega arith))

-- the entries of a range are in the words from that of its first entry to that of its last
pub filter-between : (p : ℕ → Bool) (first last low high : ℕ) → low ≤ first → first ≤ last → last < low + high
    → filter (λ e. is_between first last e && p e) (range_with_len low high) ≡ filter p (range first (last + 1))
filter-between p first last low high from order to =
    let test : ℕ → Bool = λ e. is_between first last e && p e in
    let before : ℕ = first - low in
    let within : ℕ = last + 1 - first in
    let past : ℕ = low + high - (last + 1) in
    let parts : high ≡ before + (within + past) = omega arith in
    let begins : low + before ≡ first = omega arith in
    let ends : first + within ≡ last + 1 = omega arith in
    ap (λ n. filter test (range_with_len low n)) parts
    ∙ ap (λ (es : List ℕ). filter test es) (range-append low before (within + past))
    ∙ filter-append test (range_with_len low before) (range_with_len (low + before) (within + past))
    ∙ (λ j.
    filter-none test low before (λ i inside. outside (low + i) (let no : nat_le first (low + i) ≡ false = grind (arith, nat_tests, inside) in ap (λ b. b && nat_le (low + i) last) no)) j
    ++ filter test (range_with_len (begins j) (within + past)))
    ∙ ap (λ (es : List ℕ). filter test es) (range-append first within past)
    ∙ filter-append test (range_with_len first within) (range_with_len (first + within) past)
    ∙ (λ j.
    filter-range test p first within (λ i inside.
    let yes : nat_le first (first + i) ≡ true = grind (arith, nat_tests) in
    let reached : nat_le (first + i) last ≡ true = grind (arith, nat_tests, inside) in
    λ k. (yes k && reached k) && p (first + i)) j
    ++ filter-none test (first + within) past (λ i inside. outside ((first + within) + i) (let no : nat_le ((first + within) + i) last ≡ false = grind (arith, nat_tests) in ap (λ b. nat_le first ((first + within) + i) && b) no ∙ never (nat_le first ((first + within) + i)))) j)
    ∙ nothing_more (filter p (range_with_len first within)) where
      outside : (e : ℕ) → is_between first last e ≡ false → (is_between first last e && p e) ≡ false
      outside e apart = ap (λ b. b && p e) apart

      never : (a : Bool) → (a && false) ≡ false
      never true = refl
      never false = refl

      nothing_more : (xs : List ℕ) → xs ++ [] ≡ xs
      nothing_more [] = refl
      nothing_more (x ∷ xs) = ap (λ ys. x ∷ ys) (nothing_more xs)

-- numbers of words rise
pub rising-words : (test : ℕ → Bool) (k a n : ℕ) → k ≤ a → a + n ≤ 2 ^ 26 → AreRising k (map (word_of test) (range_with_len a n))
rising-words test k a zero from to = tt
rising-words test k a (suc n) from to = (from, omega (arith, to), rising-words test (a + 1) (a + 1) n (omega arith) (omega (arith, to)))

-- Striped entries

-- the words in which a range's entries lie have those that the index carries
pub entries-striped : (first stop index size quorum number end last : ℕ) → number ≡ first / 64
    → end ≡ end_word first stop → last ≡ stop - 1
    → entries_of
    (map (word_of (λ e. is_between first last e && is_striped e index size quorum)) (range number end))
    ≡ striped_entries first stop index size quorum
entries-striped first stop index size quorum number end last begins ends lasts =
    let test : ℕ → Bool = λ e. is_between first last e && is_striped e index size quorum in
    elim (cases_lt first stop) [
      | inl some ↦
          let yes : nat_lt first stop ≡ true = grind (arith, nat_tests) in
          let at_end : end ≡ (stop - 1) / 64 + 1 = ends ∙ ap (λ b. cond b ((stop - 1) / 64 + 1) (first / 64)) yes in
          let past : last + 1 ≡ stop = omega (arith, some, lasts) in
          entries-words test number (end - number)
          ∙ filter-between (λ e. is_striped e index size quorum) first last (64 * number) (64 * (end - number))
          (omega (arith, begins)) (omega (arith, some, lasts)) (omega (arith, some, lasts, at_end, begins))
          ∙ ap (λ n. striped_entries first n index size quorum) past
      | inr none ↦
          let no : nat_lt first stop ≡ false = grind (arith, nat_tests) in
          let at_end : end ≡ first / 64 = ends ∙ ap (λ b. cond b ((stop - 1) / 64 + 1) (first / 64)) no in
          let nothing : end - number ≡ 0 = omega (arith, at_end, begins) in
          ap (λ n. entries_of (map (word_of test) (range_with_len number n))) nothing
          ∙ sym (striped_entries-nil first stop index size quorum none)
    ]

-- and none where the index is beside the ensemble
pub entries-outside : (test : ℕ → Bool) (first stop index size quorum number end : ℕ) → quorum ≤ size → size ≤ index
    → end ≡ number
    → entries_of (map (word_of test) (range number end)) ≡ striped_entries first stop index size quorum
entries-outside test first stop index size quorum number end within outside ends =
    let nothing : end - number ≡ 0 = omega (arith, ends) in
    ap (λ n. entries_of (map (word_of test) (range_with_len number n))) nothing
    ∙ sym (striped_entries-outside (stop - first) first index size quorum within outside)

pub end_word-within : (first stop : ℕ) → first < 2 ^ 32 → stop < 2 ^ 32 → end_word first stop ≤ 2 ^ 26
end_word-within first stop first_in stop_in =
    elim (nat_lt first stop) as (λ b. cond b ((stop - 1) / 64 + 1) (first / 64) ≤ 2 ^ 26) [
      | true ↦ omega (arith, first_in, stop_in)
      | false ↦ omega (arith, first_in, stop_in)
    ]

same_bit : (a b : ℕ) → a < 2 → b < 2 → (a == 1) ≡ (b == 1) → a ≡ b
same_bit a b a_in b_in alike = grind (arith, nat_tests)

-- a word with the bits of a test
pub word_of-bits : (test : ℕ → Bool) (number bits : ℕ) → bits < 2 ^ 64
    → ((i : ℕ) → i < 64 → has_bit bits i ≡ test (64 * number + i))
    → word_of test number ≡ record { number = number; bits = bits }
word_of-bits test number bits small are =
    ap (λ n. record { number = number; bits = n })
    (same_from_bits_below 64 (bits_from test (64 * number) 64) bits (from-small test (64 * number) 64) small (λ i inside.
    same_bit (bit_at (bits_from test (64 * number) 64) i) (bit_at bits i) (bit_at-lt _ _) (bit_at-lt _ _)
    (has_bit-from test (64 * number) 64 i inside ∙ sym (are i inside))))

-- which entries a word has
pub any-in_word : (w : Word) (e : ℕ) → list_any (nat_eq e) (entries_in w) ≡ is_in_word w.number w.bits e
unfolding entries_in
any-in_word w e =
    let there : Bool = list_any (eq_by_cmp nat_cmp e) (range_with_len (64 * w.number) 64) in
    list_any-same (nat_eq e) (eq_by_cmp nat_cmp e) (λ x. sym (unsigned_tied e x)) (entries_in w)
    ∙ any_filtered (is_in_word w.number w.bits) e (64 * w.number) 64
    ∙ elim (is_in_word w.number w.bits e) as (λ b. is_in_word w.number w.bits e ≡ b → (b && there) ≡ b) [
      | true ↦ λ is.
          let same : e / 64 ≡ w.number = grind (arith, nat_tests, first_of (e / 64 == w.number) _ is) in
          in_range e (64 * w.number) 64 (omega (arith, same)) (omega (arith, same))
      | false ↦ λ _. refl
    ] refl where
      first_of : (a b : Bool) → (a && b) ≡ true → a ≡ true
      first_of true b is = refl
      first_of false b is = is

-- Entries one by one

-- a number less one lacks its least bit, and has those above it
pub least-cleared : (n t i : ℕ) → has_bit n t ≡ true → ((j : ℕ) → j < t → has_bit n j ≡ false)
    → (has_bit n i && has_bit (n - 1) i) ≡ (has_bit n i && not (nat_eq i t))
least-cleared n zero zero set none =
    let odd : n % 2 ≡ 1 = grind (arith, nat_tests, sym (ap (λ (b : ℕ). b == 1) (bit_at_lowest n)) ∙ set) in
    let even : (n - 1) % 2 ≡ 0 = omega (arith, odd) in
    ap (λ b. has_bit n 0 && b) (ap (λ (b : ℕ). b == 1) (bit_at_lowest (n - 1) ∙ even))
least-cleared n zero (suc i) set none =
    let odd : n % 2 ≡ 1 = grind (arith, nat_tests, sym (ap (λ (b : ℕ). b == 1) (bit_at_lowest n)) ∙ set) in
    let half : (n - 1) / 2 ≡ n / 2 = omega (arith, odd) in
    let above : has_bit (n - 1) (suc i) ≡ has_bit n (suc i) =
    ap (λ (b : ℕ). b == 1) (bit_at-suc (n - 1) i ∙ ap (λ m. bit_at m i) half ∙ sym (bit_at-suc n i)) in
    let other : nat_eq (suc i) 0 ≡ false = grind (arith, nat_tests) in
    ap (λ b. has_bit n (suc i) && b) above ∙ both (has_bit n (suc i))
    ∙ ap (λ b. has_bit n (suc i) && not b) (sym other) where
      both : (b : Bool) → (b && b) ≡ (b && true)
      both true = refl
      both false = refl
least-cleared n (suc t) zero set none =
    let no : has_bit n 0 ≡ false = none 0 (omega arith) in
    (λ j. no j && has_bit (n - 1) 0) ∙ sym (λ j. no j && not (nat_eq 0 (suc t)))
least-cleared n (suc t) (suc i) set none =
    let even : n % 2 ≡ 0 =
    grind (arith, nat_tests, sym (ap (λ (b : ℕ). b == 1) (bit_at_lowest n)) ∙ none 0 (omega arith)) in
    let half : (n - 1) / 2 ≡ n / 2 - 1 = omega (arith, even) in
    let later : (j : ℕ) → has_bit n (suc j) ≡ has_bit (n / 2) j = λ j. ap (λ (b : ℕ). b == 1) (bit_at-suc n j) in
    (λ j. later i j
    && ap (λ (b : ℕ). b == 1) (bit_at-suc (n - 1) i ∙ ap (λ m. bit_at m i) half) j)
    ∙ least-cleared (n / 2) t i (sym (later t) ∙ set) (λ j below. sym (later j) ∙ none (suc j) (omega (arith, below)))
    ∙ (λ j. sym (later i) j && not (same j)) where
      same : nat_eq i t ≡ nat_eq (suc i) (suc t)
      same = grind (arith, nat_tests)

-- the first number of a range that passes a test, and those after it
filter-next : (p q : ℕ → Bool) (a n t : ℕ) → t < n → p (a + t) ≡ true → ((i : ℕ) → i < t → p (a + i) ≡ false)
    → ((i : ℕ) → i < n → q (a + i) ≡ (p (a + i) && not (nat_eq i t)))
    → filter p (range_with_len a n) ≡ (a + t) ∷ filter q (range_with_len a n)
filter-next p q a zero t inside passes before rest = absurd (omega arith)
filter-next p q a (suc n) zero inside passes before rest =
    let none : a + 0 ≡ a = omega arith in
    let here : p a ≡ true = ap p (sym none) ∙ passes in
    let itself : nat_eq 0 0 ≡ true = grind (arith, nat_tests) in
    let gone : q a ≡ false = ap q (sym none) ∙ rest 0 (omega arith) ∙ (λ j. passes j && not (itself j)) in
    let others : filter p (range_with_len (a + 1) n) ≡ filter q (range_with_len (a + 1) n) =
    filter-range p q (a + 1) n (λ i below.
    let next : (a + 1) + i ≡ a + suc i = omega arith in
    let other : nat_eq (suc i) 0 ≡ false = grind (arith, nat_tests) in
    ap p next ∙ sym (all (p (a + suc i))) ∙ ap (λ b. p (a + suc i) && not b) (sym other)
    ∙ sym (rest (suc i) (omega (arith, below))) ∙ ap q (sym next)) in
    (λ j. cond (here j) (a ∷ others j) (others j))
    ∙ sym (λ j. none j ∷ cond (gone j) (a ∷ filter q (range_with_len (a + 1) n)) (filter q (range_with_len (a + 1) n)))
  where
    all : (b : Bool) → (b && true) ≡ b
    all true = refl
    all false = refl
filter-next p q a (suc n) (suc t) inside passes before rest =
    let none : a + 0 ≡ a = omega arith in
    let next : (a + 1) + t ≡ a + suc t = omega arith in
    let out : p a ≡ false = ap p (sym none) ∙ before 0 (omega arith) in
    let gone : q a ≡ false =
    ap q (sym none) ∙ rest 0 (omega arith) ∙ (λ j. (ap p none ∙ out) j && not (nat_eq 0 (suc t))) in
    let others = filter-next p q (a + 1) n t (omega (arith, inside)) (ap p next ∙ passes)
    (λ i below. let at : (a + 1) + i ≡ a + suc i = omega arith in ap p at ∙ before (suc i) (omega (arith, below)))
    (λ i below.
    let at : (a + 1) + i ≡ a + suc i = omega arith in
    let same : nat_eq (suc i) (suc t) ≡ nat_eq i t = grind (arith, nat_tests) in
    ap q at ∙ rest (suc i) (omega (arith, below)) ∙ (λ j. p (sym at j) && not (same j))) in
    (λ j. cond (out j) (a ∷ filter p (range_with_len (a + 1) n)) (filter p (range_with_len (a + 1) n)))
    ∙ others
    ∙ (λ j. next j ∷ sym (λ k. cond (gone k) (a ∷ filter q (range_with_len (a + 1) n)) (filter q (range_with_len (a + 1) n))) j)

-- the least entry of a word comes before those of the word without its least bit
pub entries-next : (number bits : ℕ) → bits ≢ 0 → bits < 2 ^ 64
    → entries_in (record { number = number; bits = bits })
    ≡ (64 * number + trailing_zeros w64 bits) ∷ entries_in (record { number = number; bits = bit_and bits (bits - 1) })
unfolding entries_in
entries-next number bits some small =
    let t : ℕ = trailing_zeros w64 bits in
    let least = least-bit bits some small in
    filter-next (is_in_word number bits) (is_in_word number (bit_and bits (bits - 1))) (64 * number) 64 t least.inside
    (in_word-bit number bits t least.inside ∙ least.set)
    (λ i below. in_word-bit number bits i (omega (arith, below, least.inside)) ∙ least.before i below)
    (λ i inside.
    in_word-bit number (bit_and bits (bits - 1)) i inside ∙ has_bit-and bits (bits - 1) i
    ∙ least-cleared bits t i least.set least.before
    ∙ ap (λ b. b && not (nat_eq i t)) (sym (in_word-bit number bits i inside)))

pub entries-taken : (number bits entry : ℕ) → bits < 2 ^ 64
    → slice_get (entries_in (record { number = number; bits = bits })) 0 ≡ Some entry
    → (1 ≤ bits)
    × (entries_in (record { number = number; bits = bits })
    ≡ entry ∷ entries_in (record { number = number; bits = bit_and bits (bits - 1) }))
entries-taken number bits entry small is = elim (cases_lt 0 bits) [
  | inl some ↦
      let next = entries-next number bits (omega (arith, some)) small in
      let same : 64 * number + trailing_zeros w64 bits ≡ entry =
      of_some _ _ (sym (ap (λ (es : List ℕ). slice_get es 0) next) ∙ is) in
      (some, next ∙ ap (λ e. e ∷ entries_in (record { number = number; bits = bit_and bits (bits - 1) })) same)
  | inr none ↦
      let zero_bits : bits ≡ 0 = omega (arith, none) in
      absurd (never (sym (least-none number)
      ∙ ap (λ b. slice_get (entries_in (record { number = number; bits = b })) 0) (sym zero_bits) ∙ is))
] where
  of_some : (a b : ℕ) → Some a ≡ Some b → a ≡ b
  of_some a b same = cc

  never : None ≡ Some entry → ⊥
  never same = cc
