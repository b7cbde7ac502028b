-- A row of words has an entry if its bit is set: what becomes of the others as one bit is set, and as bits of a word
-- turn.
use Rattle.std.proofs.Common.{◌≡◌, ◌≢◌, ℕ, zero, suc, ◌+◌, ◌*◌, ◌/◌, ◌%◌, ◌<◌, ◌≤◌, Bool, true, false, cond, ◌&&◌, ◌||◌}
use Rattle.std.proofs.Common.{List, [], ◌∷◌, ◌++◌, length, get_or, set, refl, sym, ap, ◌∙◌, arith, nat_eq}
use Rattle.std.proofs.Common.{get_or-set_same, get_or-set_other, take, replicate}
use Rattle.std.specs.Prelude.{◌==◌, bit_xor, bit_or, ◌^◌}
use Rattle.std.specs.Int.{bit_at, w64}
use Rattle.std.proofs.lemmas.Bool.Decides.{nat_tests}
use Rattle.std.proofs.lemmas.Nat.Bits.{bit_at_xor, bit_at-lt, bit_at_set_same, bit_at_set_other}
use Rattle.std.proofs.lemmas.List.{get_or_read, take_all}
use Rattle.reh_model.specs.Contents.{is_in_word, one_of}
use Rattle.reh_held.specs.Rows.{is_set}

-- the word at a place, after one word is written
pub read_written : (words : List ℕ) (k v m : ℕ) → k < length words
    → get_or (set words k v) m 0 ≡ cond (nat_eq m k) v (get_or words m 0)
read_written words k v m within =
    elim (nat_eq m k) as (λ b. nat_eq m k ≡ b → get_or (set words k v) m 0 ≡ cond b v (get_or words m 0)) [
      | true ↦ λ yes. let same : m ≡ k = grind (arith, nat_tests, yes) in
          ap (λ n. get_or (set words k v) n 0) same ∙ get_or-set_same words k v 0 within
      | false ↦ λ no. let apart : m ≢ k = grind (arith, nat_tests, no) in get_or-set_other words k m v 0 apart
    ] refl

-- the bit of an entry that is set in its word
set_bit : (w e q : ℕ) → nat_eq (q / 64) (e / 64) ≡ true
    → (bit_at (bit_or w (1 * 2 ^ (e % 64) % 2 ^ 64)) (q % 64) == 1) ≡ (nat_eq q e || (bit_at w (q % 64) == 1))
set_bit w e q here =
    let word : q / 64 ≡ e / 64 = grind (arith, nat_tests, here) in
    let below : e % 64 < 64 = omega arith in
    elim (nat_eq q e) as (λ b. nat_eq q e ≡ b
    → (bit_at (bit_or w (1 * 2 ^ (e % 64) % 2 ^ 64)) (q % 64) == 1) ≡ (b || (bit_at w (q % 64) == 1))) [
      | true ↦ λ yes.
          let same : q ≡ e = grind (arith, nat_tests, yes) in
          ap (λ n. bit_at (bit_or w (1 * 2 ^ (e % 64) % 2 ^ 64)) (n % 64) == 1) same
          ∙ ap (λ (b : ℕ). b == 1) (bit_at_set_same w64 w (e % 64) below)
      | false ↦ λ no.
          let other : q ≢ e = grind (arith, nat_tests, no) in
          let bit : q % 64 ≢ e % 64 = λ is. other (omega arith) in
          ap (λ (b : ℕ). b == 1) (bit_at_set_other w64 w (e % 64) below (q % 64) bit)
    ] refl

other_word : (e q : ℕ) → nat_eq (q / 64) (e / 64) ≡ false → nat_eq q e ≡ false
other_word e q test =
    let apart : q / 64 ≢ e / 64 = grind (arith, nat_tests, test) in
    let other : q ≢ e = λ is. apart (ap (λ n. n / 64) is) in
    grind (arith, nat_tests, other)

-- with the bit of an entry set, it is in the row, and what was in it before
pub is_set-insert : (words : List ℕ) (e w : ℕ) → e < 64 * length words → w ≡ get_or words (e / 64) w → (q : ℕ)
    → is_set (set words (e / 64) (bit_or w (1 * 2 ^ (e % 64) % 2 ^ 64))) q ≡ (nat_eq q e || is_set words q)
is_set-insert words e w within read q =
    let there : e / 64 < length words = omega arith in
    let v = bit_or w (1 * 2 ^ (e % 64) % 2 ^ 64) in
    let is : w ≡ get_or words (e / 64) 0 = get_or_read words (e / 64) w there read 0 in
    ap (λ (n : ℕ). bit_at n (q % 64) == 1) (read_written words (e / 64) v (q / 64) there)
    ∙ elim (nat_eq (q / 64) (e / 64)) as (λ b. nat_eq (q / 64) (e / 64) ≡ b
    → (bit_at (cond b v (get_or words (q / 64) 0)) (q % 64) == 1) ≡ (nat_eq q e || is_set words q)) [
      | true ↦ λ here.
          let word : q / 64 ≡ e / 64 = grind (arith, nat_tests, here) in
          set_bit w e q here
          ∙ ap (λ (n : ℕ). nat_eq q e || (bit_at n (q % 64) == 1)) (is ∙ ap (λ n. get_or words n 0) (sym word))
      | false ↦ λ no. ap (λ b. b || is_set words q) (sym (other_word e q no))
    ] refl

pub bit_turns : (a b : ℕ) → a < 2 → b < 2 → ((a + b) % 2 == 1) ≡ one_of (a == 1) (b == 1)
bit_turns zero zero _ _ = refl
bit_turns zero (suc zero) _ _ = refl
bit_turns (suc zero) zero _ _ = refl
bit_turns (suc zero) (suc zero) _ _ = refl
bit_turns (suc (suc a)) b h _ = absurd (omega arith)
bit_turns zero (suc (suc b)) _ h = absurd (omega arith)
bit_turns (suc zero) (suc (suc b)) _ h = absurd (omega arith)

pub one_of-false : (b : Bool) → one_of b false ≡ b
one_of-false true = refl
one_of-false false = refl

pub one_of-group : (a b c : Bool) → one_of a (one_of b c) ≡ one_of (one_of a b) c
one_of-group true true true = refl
one_of-group true true false = refl
one_of-group true false true = refl
one_of-group true false false = refl
one_of-group false b c = refl

-- with bits of a word turned, the entries that they stand for are in the row where they were not
pub is_set-toggle : (words : List ℕ) (k bits w : ℕ) → k < length words → w ≡ get_or words k w → (q : ℕ)
    → is_set (set words k (bit_xor w bits)) q ≡ one_of (is_set words q) (is_in_word k bits q)
is_set-toggle words k bits w within read q =
    let is : w ≡ get_or words k 0 = get_or_read words k w within read 0 in
    ap (λ (n : ℕ). bit_at n (q % 64) == 1) (read_written words k (bit_xor w bits) (q / 64) within)
    ∙ elim (nat_eq (q / 64) k) as (λ b. nat_eq (q / 64) k ≡ b
    → (bit_at (cond b (bit_xor w bits) (get_or words (q / 64) 0)) (q % 64) == 1)
    ≡ one_of (is_set words q) (b && (bit_at bits (q % 64) == 1))) [
      | true ↦ λ here.
          let word : q / 64 ≡ k = grind (arith, nat_tests, here) in
          ap (λ (b : ℕ). b == 1) (bit_at_xor w bits (q % 64))
          ∙ bit_turns (bit_at w (q % 64)) (bit_at bits (q % 64)) (bit_at-lt _ _) (bit_at-lt _ _)
          ∙ ap (λ (n : ℕ). one_of (bit_at n (q % 64) == 1) (bit_at bits (q % 64) == 1))
          (is ∙ ap (λ n. get_or words n 0) (sym word))
      | false ↦ λ no. sym (one_of-false (is_set words q))
    ] refl

-- Words that are added with no bit set

read_zeros : (words : List ℕ) (n k : ℕ) → get_or (words ++ replicate n 0) k 0 ≡ get_or words k 0
read_zeros [] zero k = refl
read_zeros [] (suc n) zero = refl
read_zeros [] (suc n) (suc k) = read_zeros [] n k
read_zeros (w ∷ words) n zero = refl
read_zeros (w ∷ words) n (suc k) = read_zeros words n k

pub is_set-longer : (words : List ℕ) (width n : ℕ) → length words ≤ width → (q : ℕ)
    → is_set (take width words ++ replicate n 0) q ≡ is_set words q
is_set-longer words width n within q =
    ap (λ (ws : List ℕ). is_set (ws ++ replicate n 0) q) (take_all width words within)
    ∙ ap (λ (w : ℕ). bit_at w (q % 64) == 1) (read_zeros words n (q / 64))
