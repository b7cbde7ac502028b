-- The highest bit of the last word that is not 0 is that of the row's greatest entry.
use Rattle.std.proofs.Common.{◌≡◌, ◌||◌, [], ◌∷◌, take, ℕ, suc, ◌+◌, ◌-◌, ◌*◌, ◌/◌, ◌%◌, ◌<◌, ◌≤◌, ◌^◌, Bool, false}
use Rattle.std.proofs.Common.{List, length, get_or, sym, ap, ◌∙◌, arith, inl, inr}
use Rattle.std.specs.Prelude.{◌==◌}
use Rattle.std.specs.Int.{bit_at}
use Rattle.std.specs.List.{list_any}
use Rattle.std.specs.declared.option.Option.{Option}
use Rattle.std.specs.declared.option.Option.TheVariants.{None, Some}
use Rattle.std.proofs.lemmas.List.{take_more}
use Rattle.std.proofs.lemmas.List.Folds.{list_any-append}
use Rattle.std.proofs.Math.Bool.{or-false}
use Rattle.std.proofs.lemmas.Bool.{cases_lt, false≢true}
use Rattle.std.proofs.lemmas.Nat.{le-div, div_below, pow_pos}
use Rattle.std.proofs.lemmas.Nat.Bits.{bit_at_above}
use Rattle.std.proofs.Math.Nat.{pow-suc}
use Rattle.reh_held.specs.Rows.{is_set, IsGreatest}

one_mod : (q : ℕ) → 1 ≤ q → q < 2 → q % 2 ≡ 1
one_mod q from below = omega arith

bit_top : (w k : ℕ) → 2 ^ k ≤ w → w < 2 * 2 ^ k → bit_at w k ≡ 1
bit_top w k from below =
    let once : 1 * 2 ^ k ≤ w = omega arith in
    one_mod (w / 2 ^ k) (le-div 1 w (2 ^ k) (pow_pos k) once) (div_below w (2 ^ k) 2 (pow_pos k) below)

pub greatest_is : (words : List ℕ) (end w k : ℕ) → 0 < end → end ≤ length words → w ≡ get_or words (end - 1) 0
    → 2 ^ k ≤ w → w < 2 * 2 ^ k → k < 64 → ((e : ℕ) → 64 * end ≤ e → is_set words e ≡ false)
    → IsGreatest (is_set words) (Some (64 * (end - 1) + k))
greatest_is words end w k some within read from below bound above =
    let top : ℕ = 64 * (end - 1) + k in
    let top_word : top / 64 ≡ end - 1 = omega arith in
    let top_bit : top % 64 ≡ k = omega arith in (
      ap (λ n. bit_at (get_or words n 0) (top % 64) == 1) top_word
          ∙ ap (λ (v : ℕ). bit_at v (top % 64) == 1) (sym read)
          ∙ ap (λ n. bit_at w n == 1) top_bit
          ∙ ap (λ (b : ℕ). b == 1) (bit_top w k from below),
      λ e passes. elim (cases_lt top e) [
        | inl past ↦ elim (cases_lt e (64 * end)) [
          | inl inside ↦
              let word : e / 64 ≡ end - 1 = omega arith in
              let bit : k + 1 ≤ e % 64 = omega arith in
              let more : k + 1 ≡ suc k = omega arith in
              let small : w < 2 ^ (k + 1) = rw (more, pow-suc 2 k) (omega arith) in
              let off : is_set words e ≡ false =
              ap (λ n. bit_at (get_or words n 0) (e % 64) == 1) word ∙ ap (λ (v : ℕ). bit_at v (e % 64) == 1) (sym read)
              ∙ ap (λ (b : ℕ). b == 1) (bit_at_above w (k + 1) (e % 64) small bit) in
              absurd (false≢true (sym off ∙ passes))
          | inr beyond ↦ absurd (false≢true (sym (above e beyond) ∙ passes))
        ]
        | inr reached ↦ reached
      ],
    )

-- Over several rows

pub IsGreatest-same : (p q : ℕ → Bool) (greatest : Option ℕ) → ((e : ℕ) → p e ≡ q e) → IsGreatest p greatest
    → IsGreatest q greatest
IsGreatest-same p q None same is = λ e. sym (same e) ∙ is e
IsGreatest-same p q (Some m) same is = (sym (same m) ∙ is.0, λ e passes. is.1 e (same e ∙ passes))

-- a row more
any_more : (rows : List (List ℕ)) (i : ℕ) (row : List ℕ) → i < length rows → row ≡ get_or rows i [] → (e : ℕ)
    → (list_any (λ r. is_set r e) (take i rows) || is_set row e) ≡ list_any (λ r. is_set r e) (take (i + 1) rows)
any_more rows i row within is e = sym (ap (list_any (λ r. is_set r e)) (take_more rows i [] within)
    ∙ list_any-append (λ r. is_set r e) (take i rows) (get_or rows i [] ∷ [])
    ∙ ap (λ b. list_any (λ r. is_set r e) (take i rows) || b) (or-false (is_set (get_or rows i []) e))
    ∙ ap (λ (r : List ℕ). list_any (λ r. is_set r e) (take i rows) || is_set r e) (sym is))

pub greatest-more : (rows : List (List ℕ)) (i : ℕ) (row : List ℕ) (greatest : Option ℕ) → i < length rows
    → row ≡ get_or rows i []
    → IsGreatest (λ e. list_any (λ r. is_set r e) (take i rows) || is_set row e) greatest
    → IsGreatest (λ e. list_any (λ r. is_set r e) (take (i + 1) rows)) greatest
greatest-more rows i row greatest within is =
    IsGreatest-same (λ e. list_any (λ r. is_set r e) (take i rows) || is_set row e)
    (λ e. list_any (λ r. is_set r e) (take (i + 1) rows)) greatest (any_more rows i row within is)
