-- Contents with bits of a bookie's words turned: twice is not at all, and the order is no matter.
use Rattle.std.proofs.Common.{◌≡◌, ◌≢◌, ℕ, zero, suc, ◌+◌, ◌*◌, ◌/◌, ◌%◌, ◌<◌, ◌≤◌, Bool, true, false, ◌&&◌, ◌||◌, refl, sym, ap, subst, ◌∙◌, arith, nat_eq}
use Rattle.std.specs.Prelude.{not, ◌==◌, ◌^◌}
use Rattle.std.specs.Int.{bit_at}
use Rattle.std.specs.List.{filter, list_any, range_with_len}
use Rattle.std.specs.Ordering.{nat_cmp, eq_by_cmp}
use Rattle.std.specs.Cmp.{unsigned_tied}
use Rattle.std.proofs.lemmas.Bool.Decides.{nat_tests}
use Rattle.std.proofs.lemmas.Bool.{and_parts}
use Rattle.std.proofs.lemmas.Nat.Bits.{bit_at_lowest, bit_at-suc}
use Rattle.std.proofs.Math.Nat.{pow-suc}
use Rattle.reh_types.specs.Sets as set
use Rattle.reh_types.specs.Sets.{contains-retain, contains-union, same_set}
use Rattle.reh_types.proofs.BitLaws.{any_filtered, in_range}
use Rattle.reh_model.specs.Contents.{Contents, has, copies_of, is_in_word, word_entries, one_of, turned}
use Rattle.reh_model.proofs.ContentsLaws.{has-copies_of}
use Rattle.reh_model.proofs.Ranges.{list_any-same}

-- the numbers of a range that pass a test which none outside passes
any-passing : (p : ℕ → Bool) (a n e : ℕ) → (p e ≡ true → (a ≤ e) × (e < a + n)) → list_any (nat_eq e) (filter p (range_with_len a n)) ≡ p e
any-passing p a n e inside =
    list_any-same (nat_eq e) (eq_by_cmp nat_cmp e) (λ x. sym (unsigned_tied e x)) (filter p (range_with_len a n))
    ∙ any_filtered p e a n
    ∙ elim (p e) as (λ b. p e ≡ b → (b && list_any (eq_by_cmp nat_cmp e) (range_with_len a n)) ≡ b) [
      | true ↦ λ yes. in_range e a n ((inside yes).0) ((inside yes).1)
      | false ↦ λ _. refl
    ] refl

pub any-word_entries : (number bits e : ℕ) → list_any (nat_eq e) (word_entries number bits) ≡ is_in_word number bits e
any-word_entries number bits e = any-passing (is_in_word number bits) (64 * number) 64 e (λ passes.
    let first : nat_eq (e / 64) number ≡ true = (and_parts (nat_eq (e / 64) number) _ passes).0 in
    let same : e / 64 ≡ number = grind (arith, nat_tests, first) in
    (omega arith, omega arith))

one_of-and : (a b : Bool) → (not (a && b) && (a || b)) ≡ one_of a b
one_of-and true true = refl
one_of-and true false = refl
one_of-and false true = refl
one_of-and false false = refl

pub one_of-false : (b : Bool) → one_of b false ≡ b
one_of-false true = refl
one_of-false false = refl

-- a copy is held after the turn if it was held or turns, and not both
pub has-turned : (s : Contents) (bookie ledger number bits : ℕ) (b l e : ℕ)
    → has (turned s bookie ledger number bits) b l e ≡ one_of (has s b l e) ((nat_eq b bookie && nat_eq l ledger) && is_in_word number bits e)
has-turned s bookie ledger number bits b l e =
    let t : Contents = copies_of bookie ledger (word_entries number bits) in
    contains-retain (set.union s t) (λ q. not (set.contains s q && set.contains t q)) (b, l, e)
    ∙ ap (λ c. not (has s b l e && has t b l e) && c) (contains-union s t (b, l, e))
    ∙ one_of-and (has s b l e) (has t b l e)
    ∙ ap (one_of (has s b l e)) (has-copies_of bookie ledger (word_entries number bits) b l e ∙ ap (λ c. (nat_eq b bookie && nat_eq l ledger) && c) (any-word_entries number bits e))

-- whether a turn of a word turns the copy
abbrev turns : ℕ → ℕ → ℕ → ℕ → ℕ × ℕ × ℕ → Bool
turns bookie ledger number bits t = (nat_eq t.0 bookie && nat_eq t.1 ledger) && is_in_word number bits t.2

has-turned_two : (s : Contents) (b l k x c m n y : ℕ) (t : ℕ × ℕ × ℕ)
    → set.contains (turned (turned s b l k x) c m n y) t ≡ one_of (one_of (set.contains s t) (turns b l k x t)) (turns c m n y t)
has-turned_two s b l k x c m n y t =
    has-turned (turned s b l k x) c m n y t.0 t.1 t.2 ∙ ap (λ h. one_of h (turns c m n y t)) (has-turned s b l k x t.0 t.1 t.2)

one_of-twice : (a b : Bool) → one_of (one_of a b) b ≡ a
one_of-twice true true = refl
one_of-twice true false = refl
one_of-twice false true = refl
one_of-twice false false = refl

-- the same bits turned twice are not turned
pub turned-twice : (s : Contents) (b l k bits : ℕ) → turned (turned s b l k bits) b l k bits ≡ s
turned-twice s b l k bits =
    same_set (turned (turned s b l k bits) b l k bits) s (λ t. has-turned_two s b l k bits b l k bits t ∙ one_of-twice (set.contains s t) (turns b l k bits t))

one_of-comm : (a b c : Bool) → one_of (one_of a b) c ≡ one_of (one_of a c) b
one_of-comm true true true = refl
one_of-comm true true false = refl
one_of-comm true false true = refl
one_of-comm true false false = refl
one_of-comm false true true = refl
one_of-comm false true false = refl
one_of-comm false false true = refl
one_of-comm false false false = refl

-- turns commute
pub turned-comm : (s : Contents) (b l k x c m n y : ℕ) → turned (turned s b l k x) c m n y ≡ turned (turned s c m n y) b l k x
turned-comm s b l k x c m n y =
    same_set (turned (turned s b l k x) c m n y) (turned (turned s c m n y) b l k x) (λ t.
    has-turned_two s b l k x c m n y t ∙ one_of-comm (set.contains s t) (turns b l k x t) (turns c m n y t) ∙ sym (has-turned_two s c m n y b l k x t))

-- a bit of a number that is set
pub record HasBit (bits width : ℕ) : Type 0 where
  pub at : ℕ
  pub below : at < width
  pub is : bit_at bits at ≡ 1

-- a number that is not 0 has one
pub some_bit : (bits width : ℕ) → bits ≢ 0 → bits < 2 ^ width → HasBit bits width
some_bit bits zero some below = absurd (some (omega (arith, below)))
some_bit bits (suc width) some below = elim (bits % 2 == 1) as (λ b. (bits % 2 == 1) ≡ b → HasBit bits (suc width)) [
  | true ↦ λ odd. record { at = 0; below = omega arith; is = bit_at_lowest bits ∙ grind (arith, nat_tests, odd) }
  | false ↦ λ even.
      let no : bits % 2 ≢ 1 = grind (arith, nat_tests, even) in
      let half : bits / 2 ≢ 0 = λ e. some (omega (arith, e, no)) in
      let more : bits < 2 ^ width * 2 = subst (λ n. bits < n) (pow-suc 2 width) below in
      let rest = some_bit (bits / 2) width half (omega (arith, more)) in
      record { at = suc rest.at; below = omega (arith, rest.below); is = bit_at-suc bits rest.at ∙ rest.is }
] refl

one_of-cancel : (a b c : Bool) → one_of a b ≡ one_of a c → b ≡ c
one_of-cancel false b c h = h
one_of-cancel true true true h = refl
one_of-cancel true true false h = sym h
one_of-cancel true false true h = sym h
one_of-cancel true false false h = refl

-- numbers of so many bits are equal if their bits are
same_bits : (width x y : ℕ) → x < 2 ^ width → y < 2 ^ width
    → ((i : ℕ) → i < width → (bit_at x i == 1) ≡ (bit_at y i == 1)) → x ≡ y
same_bits zero x y few less bits = omega (arith, few, less)
same_bits (suc width) x y few less bits =
    let first : (x % 2 == 1) ≡ (y % 2 == 1) =
    ap (λ n. n == 1) (sym (bit_at_lowest x)) ∙ bits 0 (omega arith) ∙ ap (λ n. n == 1) (bit_at_lowest y) in
    let last : x % 2 ≡ y % 2 = grind (arith, nat_tests, first) in
    let few_left : x < 2 ^ width * 2 = subst (λ n. x < n) (pow-suc 2 width) few in
    let less_left : y < 2 ^ width * 2 = subst (λ n. y < n) (pow-suc 2 width) less in
    let half : x / 2 ≡ y / 2 =
    same_bits width (x / 2) (y / 2) (omega (arith, few_left)) (omega (arith, less_left)) (λ i within.
    ap (λ n. n == 1) (sym (bit_at-suc x i)) ∙ bits (suc i) (omega arith) ∙ ap (λ n. n == 1) (bit_at-suc y i)) in
    omega (arith, last, half)

-- what turns at a place of a word is one number
pub same_turn : (s : Contents) (b l k x y : ℕ) → x < 2 ^ 64 → y < 2 ^ 64
    → ((e : ℕ) → e / 64 ≡ k → has (turned s b l k x) b l e ≡ has (turned s b l k y) b l e) → x ≡ y
same_turn s b l k x y few less same = same_bits 64 x y few less (λ i within.
    let e : ℕ = 64 * k + i in
    let word : e / 64 ≡ k = omega arith in
    let place : e % 64 ≡ i = omega arith in
    let first : nat_eq b b ≡ true = grind (arith, nat_tests) in
    let second : nat_eq l l ≡ true = grind (arith, nat_tests) in
    let third : (e / 64 == k) ≡ true = grind (arith, nat_tests, word) in
    let turns : (bits : ℕ) → ((nat_eq b b && nat_eq l l) && is_in_word k bits e) ≡ (bit_at bits i == 1) =
    λ bits j. (first j && second j) && (third j && (bit_at bits (place j) == 1)) in
    sym (turns x)
    ∙ one_of-cancel (has s b l e) _ _ (sym (has-turned s b l k x b l e) ∙ same e word ∙ has-turned s b l k y b l e)
    ∙ turns y)
