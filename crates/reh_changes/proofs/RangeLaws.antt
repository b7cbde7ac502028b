-- The ranges of a word's entries, printed one entry after another.
use Rattle.std.proofs.Common.{◌≡◌, ℕ, suc, ◌+◌, ◌*◌, ◌-◌, ◌<◌, Bool, true, false, cond, ◌&&◌, List, ◌∷◌, ◌++◌, refl, sym, ap, ◌∙◌, append_assoc, arith}
use Rattle.std.specs.Prelude.{◌/◌, ◌%◌, ◌==◌, Option, None, Some, codes}
use Rattle.std.specs.Int.{bit_at}
use Rattle.std.proofs.lemmas.Bool.Decides.{nat_tests}
use Rattle.std.proofs.lemmas.List.{map-append}
use Rattle.std.proofs.lemmas.Grind.{flat_map-append}
use Rattle.reh_model.specs.Contents.{is_in_word}
use Rattle.reh_commands.specs.Texts.{behind_spaces}
use Rattle.reh_changes.specs.Ranges.{ranges_on, range_word, range_words}
use Rattle.reh_changes.specs.Passing.{ended, open_after}

-- one entry more
ranges_on-more : (test : ℕ → Bool) (since : Option ℕ) (e n : ℕ)
    → ranges_on test since e (suc n) ≡ ended since e (test e) ++ ranges_on test (open_after since e (test e)) (e + 1) n
unfolding ranges_on
ranges_on-more test None e n =
    elim (test e) as (λ t. cond t (ranges_on test (Some e) (e + 1) n) (ranges_on test None (e + 1) n) ≡ ended None e t ++ ranges_on test (open_after None e t) (e + 1) n) [ true ↦ refl | false ↦ refl ]
ranges_on-more test (Some first) e n =
    elim (test e) as (λ t. cond t (ranges_on test (Some first) (e + 1) n) ((first, e - 1) ∷ ranges_on test None (e + 1) n) ≡ ended (Some first) e t ++ ranges_on test (open_after (Some first) e t) (e + 1) n) [ true ↦ refl | false ↦ refl ]

-- and none
ranges_on-end : (test : ℕ → Bool) (since : Option ℕ) (e : ℕ) → ranges_on test since e 0 ≡ ended since e false
unfolding ranges_on
ranges_on-end test None e = refl
ranges_on-end test (Some first) e = refl

-- the ranges of so many entries from e on, each after a space and the sign
pub words_on : List ℕ → (ℕ → Bool) → Option ℕ → ℕ → ℕ → List ℕ
words_on sign test since e n = behind_spaces (range_words sign (ranges_on test since e n))

pub words_on-is : (sign : List ℕ) (test : ℕ → Bool) (since : Option ℕ) (e n : ℕ) → words_on sign test since e n ≡ behind_spaces (range_words sign (ranges_on test since e n))
unfolding words_on
words_on-is sign test since e n = refl

words_on-more : (sign : List ℕ) (test : ℕ → Bool) (since : Option ℕ) (e n : ℕ)
    → words_on sign test since e (suc n) ≡ behind_spaces (range_words sign (ended since e (test e))) ++ words_on sign test (open_after since e (test e)) (e + 1) n
unfolding words_on
words_on-more sign test since e n =
    let now = ended since e (test e) in
    let later = ranges_on test (open_after since e (test e)) (e + 1) n in
    ap (λ ranges. behind_spaces (range_words sign ranges)) (ranges_on-more test since e n)
    ∙ ap behind_spaces (map-append (range_word sign) now later)
    ∙ flat_map-append (λ (word : List ℕ). codes " " ++ word) (range_words sign now) (range_words sign later)

pub words_on-end : (sign : List ℕ) (test : ℕ → Bool) (since : Option ℕ) (e : ℕ)
    → words_on sign test since e 0 ≡ behind_spaces (range_words sign (ended since e false))
unfolding words_on
words_on-end sign test since e = ap (λ ranges. behind_spaces (range_words sign ranges)) (ranges_on-end test since e)

-- the i-th entry of a word is in it if the i-th bit is set
is_in_word-at : (number bits i : ℕ) → i < 64 → is_in_word number bits (64 * number + i) ≡ (bit_at bits i == 1)
is_in_word-at number bits i within =
    let word : (64 * number + i) / 64 ≡ number = omega arith in
    let place : (64 * number + i) % 64 ≡ i = omega arith in
    let here : ((64 * number + i) / 64 == number) ≡ true = grind (arith, nat_tests) in
    (λ k. here k && (bit_at bits (place k) == 1))

-- the i-th entry is printed
pub entry_more : (text sign : List ℕ) (number bits : ℕ) (since : Option ℕ) (i : ℕ) → i < 64
    → (text ++ behind_spaces (range_words sign (ended since (64 * number + i) (bit_at bits i == 1))))
    ++ words_on sign (is_in_word number bits) (open_after since (64 * number + i) (bit_at bits i == 1)) (64 * number + (i + 1)) (64 - (i + 1))
    ≡ text ++ words_on sign (is_in_word number bits) since (64 * number + i) (64 - i)
entry_more text sign number bits since i within =
    let e = 64 * number + i in
    let test = is_in_word number bits in
    let bit : is_in_word number bits e ≡ (bit_at bits i == 1) = is_in_word-at number bits i within in
    let next : e + 1 ≡ 64 * number + (i + 1) = omega arith in
    let left : 64 - i ≡ suc (64 - (i + 1)) = omega arith in
    append_assoc text (behind_spaces (range_words sign (ended since e (bit_at bits i == 1)))) _
    ∙ ap (λ t. text ++ t)
    (sym (ap (λ n. words_on sign test since e n) left
    ∙ words_on-more sign test since e (64 - (i + 1))
    ∙ (λ k. behind_spaces (range_words sign (ended since e (bit k))) ++ words_on sign test (open_after since e (bit k)) (next k) (64 - (i + 1)))))
