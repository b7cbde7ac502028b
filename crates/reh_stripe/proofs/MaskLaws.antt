-- Masks of the entries that indexes carry.
use Rattle.std.proofs.Common.{◌≡◌, ◌≢◌, ◌∙◌, ◌+◌, ◌-◌, ◌*◌, ◌/◌, ◌%◌, ◌^◌, ◌<◌, ◌≤◌, ◌&&◌, ◌||◌, Bool, true, false}
use Rattle.std.proofs.Common.{List, [], ◌∷◌, ℕ, zero, suc, refl, ap, sym, slice_index, arith, nat_eq, nat_le, nat_lt}
use Rattle.std.specs.Prelude.{◌==◌, bit_or, All}
use Rattle.std.specs.Int.{bit_at, w64}
use Rattle.std.specs.List.{list_any, range_with_len}
use Rattle.std.proofs.Math.Bool.{or-false}
use Rattle.std.proofs.Math.Nat.{add-mod-mod, mod-add-mod, mod-eq_of_lt}
use Rattle.std.proofs.lemmas.Bool.Decides.{nat_tests}
use Rattle.std.proofs.lemmas.Nat.{mod_below, div-add-mod'}
use Rattle.std.proofs.lemmas.Nat.Bits.{bit_at-zero, bit_at_lowest, bit_at-suc, bit_at_cat_low}
use Rattle.std.proofs.lemmas.Nat.Bits.{bit_at_set_same, bit_at_set_other}
use Rattle.std.proofs.lemmas.List.Elements.{All-filter, All-nil, All-cons}
use Rattle.reh_model.specs.Striping.{range, index_at, rank_of, is_striped, striped_entries}
use Rattle.reh_model.proofs.StripingLaws.{index_at-rank_of, rank_of-index_at, is_striped-rank_of}
use Rattle.reh_model.proofs.StripedLaws.{list_any-striped_entries}
use Rattle.reh_stripe.specs.Masks.{IsMask, AreMasks}
use Rattle.reh_stripe.specs.Words.{has_bit}
use Rattle.reh_stripe.proofs.WordLaws.{has_bit-none, has_bit-or}

or_true : (b : Bool) → true ≡ (b || true)
or_true true = refl
or_true false = refl

-- one bit more
has_bit-set : (mask e i : ℕ) → e < 64 → has_bit (bit_or mask (1 * 2 ^ e % 2 ^ 64)) i ≡ (has_bit mask i || nat_eq i e)
has_bit-set mask e i within =
    elim (nat_eq i e) as (λ b. nat_eq i e ≡ b → has_bit (bit_or mask (1 * 2 ^ e % 2 ^ 64)) i ≡ (has_bit mask i || b)) [
      | true ↦ λ yes.
          let same : i ≡ e = grind (arith, nat_tests, yes) in
          ap (λ n. has_bit (bit_or mask (1 * 2 ^ e % 2 ^ 64)) n) same
          ∙ ap (λ (b : ℕ). b == 1) (bit_at_set_same w64 mask e within) ∙ or_true (has_bit mask i)
      | false ↦ λ no.
          let other : i ≢ e = grind (arith, nat_tests, no) in
          ap (λ (b : ℕ). b == 1) (bit_at_set_other w64 mask e within i other) ∙ sym (or-false (has_bit mask i))
    ] refl

-- A mask

-- the bits of the mask, and the entries that are left, are those that the index carries
pub record IsMasking (size quorum index mask : ℕ) (entries : List ℕ) : Type 0 where
  pub bits : (i : ℕ) → i < 64 → (has_bit mask i || list_any (nat_eq i) entries) ≡ is_striped i index size quorum
  pub within : All (λ e. e < 64) entries

below_range : (a n stop : ℕ) → a + n ≤ stop → All (λ e. e < stop) (range_with_len a n)
below_range a zero stop within = All-nil (λ e. e < stop)
below_range a (suc n) stop within =
    All-cons (λ e. e < stop) a (range_with_len (a + 1) n) (omega arith) (below_range (a + 1) n stop (omega arith))

pub masking-none : (size quorum index : ℕ) → IsMasking size quorum index 0 (striped_entries 0 64 index size quorum)
masking-none size quorum index = record {
  bits = λ i inside.
      let from : nat_le 0 i ≡ true = grind (arith, nat_tests) in
      let to : nat_lt i 64 ≡ true = grind (arith, nat_tests) in
      ap (λ b. b || list_any (nat_eq i) (striped_entries 0 64 index size quorum)) (has_bit-none i)
      ∙ list_any-striped_entries i 0 64 index size quorum
      ∙ (λ j. is_striped i index size quorum && (from j && to j))
      ∙ and_true (is_striped i index size quorum);
  within =
      All-filter (λ e. is_striped e index size quorum) (λ e. e < 64) (range 0 64) (below_range 0 64 64 (omega arith));
} where
  and_true : (b : Bool) → (b && true) ≡ b
  and_true true = refl
  and_true false = refl

pub masking-more : (size quorum index mask e : ℕ) (entries : List ℕ) → IsMasking size quorum index mask (e ∷ entries)
    → All (λ e. e < 64) entries → e < 64
    → IsMasking size quorum index (bit_or mask (1 * 2 ^ e % 2 ^ 64)) entries
masking-more size quorum index mask e entries was within inside = record {
  bits = λ i inside_word.
      ap (λ b. b || list_any (nat_eq i) entries) (has_bit-set mask e i inside)
      ∙ regroup (has_bit mask i) (nat_eq i e) (list_any (nat_eq i) entries)
      ∙ was.bits i inside_word;
  within = within;
} where
  regroup : (a b c : Bool) → ((a || b) || c) ≡ (a || (b || c))
  regroup true b c = refl
  regroup false b c = refl

pub masking-all : (size quorum index mask : ℕ) → IsMasking size quorum index mask [] → IsMask size quorum index mask
masking-all size quorum index mask was = λ i inside. sym (or-false (has_bit mask i)) ∙ was.bits i inside

-- the bits of a mask, one later
has_bit-later : (mask i : ℕ) → suc i < 64 → has_bit (mask * 2 % 2 ^ 64) (suc i) ≡ has_bit mask i
has_bit-later mask i inside =
    let half : (mask * 2 % 2 ^ 64) / 2 ≡ mask % 2 ^ 63 = omega arith in
    let parts : mask / 2 ^ 63 * 2 ^ 63 + mask % 2 ^ 63 ≡ mask = div-add-mod' mask (2 ^ 63) in
    ap (λ (b : ℕ). b == 1)
    (bit_at-suc (mask * 2 % 2 ^ 64) i ∙ ap (λ n. bit_at n i) half
    ∙ sym (bit_at_cat_low (mask / 2 ^ 63) 63 (mask % 2 ^ 63) i (omega arith)) ∙ ap (λ n. bit_at n i) parts)

has_bit-first : (mask : ℕ) → has_bit (mask * 2 % 2 ^ 64) 0 ≡ false
has_bit-first mask =
    let even : (mask * 2 % 2 ^ 64) % 2 ≡ 0 = omega arith in
    ap (λ (b : ℕ). b == 1) (bit_at_lowest (mask * 2 % 2 ^ 64) ∙ even)

-- each entry stands at the index after that of the entry before it
rank_of-next : (e i n : ℕ) → i + 1 < n → rank_of (suc e) (i + 1) n ≡ rank_of e i n
rank_of-next e i n inside =
    let j : ℕ = rank_of e i n in
    let j_in : j < n = mod_below (i + n - e % n) n (omega arith) in
    let group : suc e + j ≡ (e + j) + 1 = omega arith in
    rank_of-index_at (suc e) (i + 1) n j j_in
    (ap (λ k. k % n) group ∙ sym (mod-add-mod (e + j) n 1)
    ∙ ap (λ k. (k + 1) % n) (index_at-rank_of e i n (omega arith)) ∙ mod-eq_of_lt inside)

-- at an index the first entry has the index for its rank
rank_of-first : (i n : ℕ) → i < n → rank_of 0 i n ≡ i
rank_of-first i n inside =
    rank_of-index_at 0 i n i inside (let none : 0 + i ≡ i = omega arith in ap (λ k. k % n) none ∙ mod-eq_of_lt inside)

-- what the first entry's bit has to be, and the others, which are those of the index before
pub mask-next : (size quorum before index mask next : ℕ) → 1 ≤ quorum → quorum ≤ size → before + 1 ≡ index
    → index < size → IsMask size quorum before mask
    → has_bit next 0 ≡ nat_lt index quorum
    → ((i : ℕ) → suc i < 64 → has_bit next (suc i) ≡ has_bit (mask * 2 % 2 ^ 64) (suc i))
    → IsMask size quorum index next
mask-next size quorum before index mask next some within is inside was first others zero in_word =
    first ∙ ap (λ n. nat_lt n quorum) (sym (rank_of-first index size inside))
    ∙ sym (is_striped-rank_of 0 index size quorum some within inside)
mask-next size quorum before index mask next some within is inside was first others (suc i) in_word =
    others i in_word
    ∙ has_bit-later mask i in_word
    ∙ was i (omega arith)
    ∙ is_striped-rank_of i before size quorum some within (omega arith)
    ∙ ap (λ n. nat_lt n quorum) (sym (rank_of-next i before size (omega arith)) ∙ ap (λ k. rank_of (suc i) k size) is)
    ∙ sym (is_striped-rank_of (suc i) index size quorum some within inside)

-- the first bit alone
has_bit-one_first : has_bit 1 0 ≡ true
has_bit-one_first = ap (λ (b : ℕ). b == 1) (bit_at_lowest 1)

has_bit-one_later : (i : ℕ) → has_bit 1 (suc i) ≡ false
has_bit-one_later i = ap (λ (b : ℕ). b == 1) (bit_at-suc 1 i ∙ bit_at-zero i)

pub mask-next_with : (size quorum before index mask : ℕ) → 1 ≤ quorum → quorum ≤ size → before + 1 ≡ index
    → index < size → IsMask size quorum before mask → index < quorum
    → IsMask size quorum index (bit_or (mask * 2 % 2 ^ 64) 1)
mask-next_with size quorum before index mask some within is inside was carried =
    let yes : nat_lt index quorum ≡ true = grind (arith, nat_tests) in
    mask-next size quorum before index mask (bit_or (mask * 2 % 2 ^ 64) 1) some within is inside was
    (has_bit-or (mask * 2 % 2 ^ 64) 1 0 ∙ ap (λ b. has_bit (mask * 2 % 2 ^ 64) 0 || b) has_bit-one_first
    ∙ sym (or_true (has_bit (mask * 2 % 2 ^ 64) 0)) ∙ sym yes)
    (λ i in_word. has_bit-or (mask * 2 % 2 ^ 64) 1 (suc i)
    ∙ ap (λ b. has_bit (mask * 2 % 2 ^ 64) (suc i) || b) (has_bit-one_later i)
    ∙ or-false (has_bit (mask * 2 % 2 ^ 64) (suc i)))

pub mask-next_without : (size quorum before index mask : ℕ) → 1 ≤ quorum → quorum ≤ size → before + 1 ≡ index
    → index < size → IsMask size quorum before mask → quorum ≤ index
    → IsMask size quorum index (mask * 2 % 2 ^ 64)
mask-next_without size quorum before index mask some within is inside was missed =
    let no : nat_lt index quorum ≡ false = grind (arith, nat_tests) in
    mask-next size quorum before index mask (mask * 2 % 2 ^ 64) some within is inside was (has_bit-first mask ∙ sym no)
    (λ i in_word. refl)

-- Words

-- the index of rank 0 goes on from word to word
pub start-next : (number words n : ℕ)
    → ((64 * number) % n + (64 * words) % n) % n ≡ (64 * (number + words)) % n
start-next number words n =
    let more : 64 * number + 64 * words ≡ 64 * (number + words) = omega arith in
    mod-add-mod (64 * number) n ((64 * words) % n)
    ∙ add-mod-mod (64 * number) (64 * words) n
    ∙ ap (λ m. m % n) more

-- ranks go on from word to word
rank_of-more : (a t i n : ℕ) → i < n → rank_of t (rank_of a i n) n ≡ rank_of (a + t) i n
rank_of-more a t i n inside =
    let r : ℕ = rank_of a i n in
    let r_in : r < n = mod_below (i + n - a % n) n (omega arith) in
    let j : ℕ = rank_of t r n in
    let j_in : j < n = mod_below (r + n - t % n) n (omega arith) in
    let group : (a + t) + j ≡ a + (t + j) = omega arith in
    let at : index_at (a + t) n j ≡ i =
    ap (λ k. k % n) group
    ∙ sym (add-mod-mod a (t + j) n)
    ∙ ap (λ k. (a + k) % n) (index_at-rank_of t r n r_in)
    ∙ index_at-rank_of a i n inside in
    sym (rank_of-index_at (a + t) i n j j_in at)

-- an index carries an entry where its rank carries it as many entries later
pub is_striped-moved : (a t index size quorum : ℕ) → 1 ≤ quorum → quorum ≤ size → index < size
    → is_striped t (rank_of a index size) size quorum ≡ is_striped (a + t) index size quorum
is_striped-moved a t index size quorum some within inside =
    let r : ℕ = rank_of a index size in
    let r_in : r < size = mod_below (index + size - a % size) size (omega arith) in
    is_striped-rank_of t r size quorum some within r_in
    ∙ ap (λ n. nat_lt n quorum) (rank_of-more a t index size inside)
    ∙ sym (is_striped-rank_of (a + t) index size quorum some within inside)

-- a mask of a rank tells which entries of the word the index carries
pub has_bit-mask : (masks : List ℕ) (size quorum number i index : ℕ) → 1 ≤ quorum → quorum ≤ size → index < size → i < 64
    → AreMasks size quorum masks
    → has_bit (slice_index masks (rank_of (64 * number) index size)) i ≡ is_striped (64 * number + i) index size quorum
has_bit-mask masks size quorum number i index some within inside bit are =
    let r_in : rank_of (64 * number) index size < size =
    mod_below (index + size - (64 * number) % size) size (omega arith) in
    are (rank_of (64 * number) index size) r_in i bit
    ∙ is_striped-moved (64 * number) i index size quorum some within inside
