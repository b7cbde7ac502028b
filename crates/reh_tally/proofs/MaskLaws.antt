-- Masks.
use Rattle.std.proofs.Common.{◌≡◌, ◌≢◌, ◌∙◌, ◌+◌, ◌-◌, ◌*◌, ◌/◌, ◌%◌, ◌^◌, ◌<◌, ◌≤◌, ◌&&◌, ◌||◌, cond, ℕ, Bool, true, false, List, [], ◌∷◌, ◌++◌, All, length, get_or, drop, map, refl, ap, sym, append_assoc, arith}
use Rattle.std.specs.Prelude.{◌==◌, max, min, bit_and, bit_or}
use Rattle.std.specs.Int.Bits.{and_step, or_step}
use Rattle.std.specs.List.{filter}
use Rattle.std.proofs.lemmas.Bool.Decides.{nat_tests}
use Rattle.std.proofs.lemmas.Nat.{div-mul-add, mod-mul-add}
use Rattle.std.proofs.Math.Nat.{pow-suc}
use Rattle.std.proofs.lemmas.List.Elements.{All-head, All-tail}
use Rattle.std.proofs.lemmas.List.{append-nil, at_drop_more}
use Rattle.std.proofs.Math.Pow.{pow_mono}
use Rattle.reh_tally.specs.Masks.{chosen, mask_of}

bit_below : (b : Bool) → cond b 1 0 < 2
bit_below true = omega arith
bit_below false = omega arith

half : (m : ℕ) (b : Bool) → (m * 2 + cond b 1 0) / 2 ≡ m
half m b = div-mul-add m 2 (cond b 1 0) (bit_below b)

lowest : (m : ℕ) (b : Bool) → (m * 2 + cond b 1 0) % 2 ≡ cond b 1 0
lowest m b = mod-mul-add m 2 (cond b 1 0) (bit_below b)

is_set : (b : Bool) → (cond b 1 0 == 1) ≡ b
is_set true = refl
is_set false = refl

-- the bits of a test choose those that pass it
pub chosen-mask : (test : ℕ → Bool) (bookies : List ℕ) → chosen (mask_of test bookies) bookies ≡ filter test bookies
chosen-mask test [] = refl
chosen-mask test (b ∷ bookies) =
    let rest : chosen ((mask_of test bookies * 2 + cond (test b) 1 0) / 2) bookies ≡ filter test bookies =
    ap (λ m. chosen m bookies) (half (mask_of test bookies) (test b)) ∙ chosen-mask test bookies in
    let bit : ((mask_of test bookies * 2 + cond (test b) 1 0) % 2 == 1) ≡ test b =
    ap (λ r. r == 1) (lowest (mask_of test bookies) (test b)) ∙ is_set (test b) in
    λ i. cond (bit i) (b ∷ rest i) (rest i)

both_bits : (a b : Bool) → min (cond a 1 0) (cond b 1 0) ≡ cond (a && b) 1 0
both_bits true true = refl
both_bits true false = refl
both_bits false true = refl
both_bits false false = refl

-- the bits that two masks have are those of both tests
pub and-mask : (test other : ℕ → Bool) (bookies : List ℕ)
    → bit_and (mask_of test bookies) (mask_of other bookies) ≡ mask_of (λ b. test b && other b) bookies
and-mask test other [] = refl
and-mask test other (b ∷ bookies) =
    let m : ℕ = mask_of test bookies in
    let n : ℕ = mask_of other bookies in
    and_step (m * 2 + cond (test b) 1 0) (n * 2 + cond (other b) 1 0)
    ∙ (λ i. bit_and (half m (test b) i) (half n (other b) i) * 2 + min (lowest m (test b) i) (lowest n (other b) i))
    ∙ (λ i. and-mask test other bookies i * 2 + both_bits (test b) (other b) i)

either_bit : (a b : Bool) → max (cond a 1 0) (cond b 1 0) ≡ cond (a || b) 1 0
either_bit true true = refl
either_bit true false = refl
either_bit false true = refl
either_bit false false = refl

-- the bits that one of two masks has are those of either test
pub or-mask : (test other : ℕ → Bool) (bookies : List ℕ)
    → bit_or (mask_of test bookies) (mask_of other bookies) ≡ mask_of (λ b. test b || other b) bookies
or-mask test other [] = refl
or-mask test other (b ∷ bookies) =
    let m : ℕ = mask_of test bookies in
    let n : ℕ = mask_of other bookies in
    or_step (m * 2 + cond (test b) 1 0) (n * 2 + cond (other b) 1 0)
    ∙ (λ i. bit_or (half m (test b) i) (half n (other b) i) * 2 + max (lowest m (test b) i) (lowest n (other b) i))
    ∙ (λ i. or-mask test other bookies i * 2 + either_bit (test b) (other b) i)

one_more : (m p : ℕ) (b : Bool) → m < p → m * 2 + cond b 1 0 < p * 2
one_more m p true below = omega arith
one_more m p false below = omega arith

mask-below : {X : Type 0} (test : X → Bool) (xs : List X) → mask_of test xs < 2 ^ length xs
mask-below test [] = omega arith
mask-below test (x ∷ xs) =
    omega (arith, one_more (mask_of test xs) (2 ^ length xs) (test x) (mask-below test xs), pow-suc 2 (length xs))

-- there is room for a bit more
pub mask-room : {X : Type 0} (test : X → Bool) (xs : List X) → length xs ≤ 63 → mask_of test xs < 2 ^ 63
mask-room test xs few = omega (arith, mask-below test xs, pow_mono few)

-- tests that answer alike
pub mask-same : {X : Type 0} (test other : X → Bool) (xs : List X) → All (λ x. test x ≡ other x) xs → mask_of test xs ≡ mask_of other xs
mask-same test other [] alike = refl
mask-same test other (x ∷ xs) alike =
    λ i. mask-same test other xs (All-tail (λ x. test x ≡ other x) x xs alike) i * 2
    + cond (All-head (λ x. test x ≡ other x) x xs alike i) 1 0

-- of what is made of a list
pub mask-map : {X Y : Type 0} (test : Y → Bool) (f : X → Y) (xs : List X) → mask_of test (map f xs) ≡ mask_of (λ x. test (f x)) xs
mask-map test f [] = refl
mask-map test f (x ∷ xs) = ap (λ m. m * 2 + cond (test (f x)) 1 0) (mask-map test f xs)

one_member : (names rest : List ℕ) (m : ℕ) (b : Bool) → (names ++ cond b (m ∷ []) []) ++ rest ≡ names ++ cond b (m ∷ rest) rest
one_member names rest m true = append_assoc names (m ∷ []) rest
one_member names rest m false = ap (λ xs. xs ++ rest) (append-nil names)

-- one member more, chosen or not
pub chosen-more : (names more members all : List ℕ) (i rest : ℕ) → i < length members
    → more ≡ names ++ cond (rest % 2 == 1) (get_or members i 0 ∷ []) []
    → names ++ chosen rest (drop i members) ≡ all
    → more ++ chosen (rest / 2) (drop (i + 1) members) ≡ all
chosen-more names more members all i rest within is was =
    ap (λ xs. xs ++ chosen (rest / 2) (drop (i + 1) members)) is
    ∙ one_member names (chosen (rest / 2) (drop (i + 1) members)) (get_or members i 0) (rest % 2 == 1)
    ∙ ap (λ xs. names ++ xs) (sym (at_drop_more (chosen rest) members i 0 within))
    ∙ was

pub with_one : (names : List ℕ) (m r : ℕ) → r ≡ 1 → names ++ m ∷ [] ≡ names ++ cond (r == 1) (m ∷ []) []
with_one names m r is = ap (λ b. names ++ cond b (m ∷ []) []) (sym (same r is)) where
  same : (r : ℕ) → r ≡ 1 → (r == 1) ≡ true
  same r is = grind (arith, nat_tests)

pub with_none : (names : List ℕ) (m r : ℕ) → r ≢ 1 → names ≡ names ++ cond (r == 1) (m ∷ []) []
with_none names m r apart = sym (append-nil names) ∙ ap (λ b. names ++ cond b (m ∷ []) []) (sym (differ r apart)) where
  differ : (r : ℕ) → r ≢ 1 → (r == 1) ≡ false
  differ r apart = grind (arith, nat_tests)

-- one element more, from the last
pub mask-more : {X : Type 0} (test : X → Bool) (xs : List X) (i : ℕ) (d : X) (mask more : ℕ) (bit : Bool) → 0 < i → i ≤ length xs
    → mask ≡ mask_of test (drop i xs) → bit ≡ test (get_or xs (i - 1) d) → more ≡ mask * 2 + cond bit 1 0
    → more ≡ mask_of test (drop (i - 1) xs)
mask-more test xs i d mask more bit some within was is then =
    let next : (i - 1) + 1 ≡ i = omega (arith, some) in
    then
    ∙ (λ j. (was ∙ ap (λ k. mask_of test (drop k xs)) (sym next)) j * 2 + cond (is j) 1 0)
    ∙ sym (at_drop_more (mask_of test) xs (i - 1) d (omega (arith, some, within)))
