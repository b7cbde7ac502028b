-- The bits of a range of entries, set word by word.
use Rattle.std.proofs.Common.{◌≡◌, ℕ, ◌+◌, ◌*◌, ◌/◌, ◌%◌, ◌<◌, ◌≤◌, Bool, true, false, cond, ◌&&◌, ◌||◌, List}
use Rattle.std.proofs.Common.{length, get_or, set, refl, sym, ap, ◌∙◌, arith, nat_eq, nat_le, nat_lt, inl, inr}
use Rattle.std.specs.Prelude.{◌==◌, bit_or}
use Rattle.std.specs.Int.{bit_at}
use Rattle.std.proofs.lemmas.Bool.{cases_lt, cases_order}
use Rattle.std.proofs.lemmas.Bool.Decides.{nat_tests}
use Rattle.std.proofs.lemmas.List.{get_or_read, length-set}
use Rattle.reh_stripe.specs.Words.{is_between}
use Rattle.reh_stripe.proofs.WordLaws.{has_bit-or}
use Rattle.reh_held.specs.Rows.{is_set}
use Rattle.reh_held.proofs.RowLaws.{read_written}

-- One word

is_set-or : (words : List ℕ) (k m w : ℕ) → k < length words → w ≡ get_or words k w → (q : ℕ)
    → is_set (set words k (bit_or w m)) q ≡ ((nat_eq (q / 64) k && (bit_at m (q % 64) == 1)) || is_set words q)
is_set-or words k m w within read q =
    let is : w ≡ get_or words k 0 = get_or_read words k w within read 0 in
    ap (λ (n : ℕ). bit_at n (q % 64) == 1) (read_written words k (bit_or w m) (q / 64) within)
    ∙ elim (nat_eq (q / 64) k) as (λ b. nat_eq (q / 64) k ≡ b
    → (bit_at (cond b (bit_or w m) (get_or words (q / 64) 0)) (q % 64) == 1)
    ≡ ((b && (bit_at m (q % 64) == 1)) || is_set words q)) [
      | true ↦ λ here.
          let word : q / 64 ≡ k = grind (arith, nat_tests, here) in
          has_bit-or w m (q % 64)
          ∙ round (bit_at w (q % 64) == 1) (bit_at m (q % 64) == 1)
          ∙ ap (λ (n : ℕ). (bit_at m (q % 64) == 1) || (bit_at n (q % 64) == 1))
          (is ∙ ap (λ n. get_or words n 0) (sym word))
      | false ↦ λ _. refl
    ] refl where
      round : (a b : Bool) → (a || b) ≡ (b || a)
      round true true = refl
      round true false = refl
      round false true = refl
      round false false = refl

-- The loop

-- the words below a number have the bits of the range, and all words those that they had
pub record IsFilling (before : List ℕ) (first last number : ℕ) (now : List ℕ) : Type 0 where
  pub width : length now ≡ length before
  pub bits : (e : ℕ) → is_set now e ≡ ((nat_lt (e / 64) number && is_between first last e) || is_set before e)

pub filling-none : (before : List ℕ) (first last : ℕ) → IsFilling before first last (first / 64) before
filling-none before first last = record {
  width = refl;
  bits = λ e. elim (cases_lt (e / 64) (first / 64)) [
    | inl lt ↦
        let no : nat_le first e ≡ false = grind (arith, nat_tests) in
        sym (ap (λ b. b || is_set before e)
        (nothing (nat_lt (e / 64) (first / 64)) _ (ap (λ b. b && nat_le e last) no)))
    | inr ge ↦
        let no : nat_lt (e / 64) (first / 64) ≡ false = grind (arith, nat_tests) in
        sym (ap (λ b. (b && is_between first last e) || is_set before e) no)
  ];
} where
  nothing : (a b : Bool) → b ≡ false → (a && b) ≡ false
  nothing true b none = none
  nothing false b none = refl

pub filling-all : (before now : List ℕ) (first last number : ℕ) → last / 64 + 1 ≤ number
    → IsFilling before first last number now → (e : ℕ) → is_set now e ≡ (is_between first last e || is_set before e)
filling-all before now first last number end filling e =
    filling.bits e ∙ ap (λ b. b || is_set before e) (elim (cases_lt last e) [
      | inl past ↦
          let no : nat_le e last ≡ false = grind (arith, nat_tests) in
          (λ i. nat_lt (e / 64) number && (nat_le first e && no i)) ∙ never (nat_lt (e / 64) number) (nat_le first e)
          ∙ sym (ap (λ b. nat_le first e && b) no)
      | inr within ↦
          let yes : nat_lt (e / 64) number ≡ true = grind (arith, nat_tests) in
          ap (λ b. b && is_between first last e) yes
    ]) where
      never : (a b : Bool) → (a && (b && false)) ≡ (b && false)
      never true b = refl
      never false true = refl
      never false false = refl

pub filling-more : (before now : List ℕ) (first last number m w : ℕ) → number < length now → w ≡ get_or now number w
    → ((i : ℕ) → i < 64 → (bit_at m i == 1) ≡ is_between first last (64 * number + i))
    → IsFilling before first last number now
    → IsFilling before first last (number + 1) (set now number (bit_or w m))
filling-more before now first last number m w within read mask filling = record {
  width = length-set now number (bit_or w m) ∙ filling.width;
  bits = λ e.
      is_set-or now number m w within read e
      ∙ (λ i. (nat_eq (e / 64) number && (bit_at m (e % 64) == 1)) || filling.bits e i)
      ∙ elim (cases_order (e / 64) number) [
        | inl is ↦
            let here : nat_eq (e / 64) number ≡ true = grind (arith, nat_tests) in
            let before_it : nat_lt (e / 64) number ≡ false = grind (arith, nat_tests) in
            let next : nat_lt (e / 64) (number + 1) ≡ true = grind (arith, nat_tests) in
            let place : 64 * number + e % 64 ≡ e = omega arith in
            (λ i.
            (here i && (mask (e % 64) (omega arith) ∙ ap (is_between first last) place) i)
            || ((before_it i && is_between first last e) || is_set before e))
            ∙ sym (ap (λ b. (b && is_between first last e) || is_set before e) next)
        | inr apart ↦ elim apart [
          | inl lt ↦
              let here : nat_eq (e / 64) number ≡ false = grind (arith, nat_tests) in
              let before_it : nat_lt (e / 64) number ≡ true = grind (arith, nat_tests) in
              let next : nat_lt (e / 64) (number + 1) ≡ true = grind (arith, nat_tests) in
              (λ i.
              (here i && (bit_at m (e % 64) == 1)) || ((before_it i && is_between first last e) || is_set before e))
              ∙ sym (ap (λ b. (b && is_between first last e) || is_set before e) next)
          | inr gt ↦
              let here : nat_eq (e / 64) number ≡ false = grind (arith, nat_tests) in
              let before_it : nat_lt (e / 64) number ≡ false = grind (arith, nat_tests) in
              let next : nat_lt (e / 64) (number + 1) ≡ false = grind (arith, nat_tests) in
              (λ i.
              (here i && (bit_at m (e % 64) == 1)) || ((before_it i && is_between first last e) || is_set before e))
              ∙ sym (ap (λ b. (b && is_between first last e) || is_set before e) next)
        ]
      ];
}
