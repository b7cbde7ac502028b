-- The ones of the words are as many as the entries of the row.
use Rattle.std.proofs.Common.{◌≡◌, ℕ, ◌+◌, ◌*◌, ◌/◌, ◌%◌, ◌<◌, ◌^◌, List, [], ◌∷◌, ◌++◌, length}
use Rattle.std.proofs.Common.{take, get_or, sym, ap, ◌∙◌, arith}
use Rattle.std.specs.Prelude.{◌==◌, count_by}
use Rattle.std.specs.List.{range_with_len}
use Rattle.std.specs.Int.{bit_at}
use Rattle.std.specs.Int.Count.{ones}
use Rattle.std.proofs.lemmas.List.{get_or_append_left, get_or-append-add, take_more, length-append}
use Rattle.std.proofs.lemmas.List.Sums.{length-filter}
use Rattle.reh_held.specs.Rows.{is_set, entries_in}
use Rattle.reh_stripe.proofs.CountLaws.{count-range, count-append, count-ones}

-- One word more

is_set-front : (words : List ℕ) (w e : ℕ) → e < 64 * length words → is_set (words ++ w ∷ []) e ≡ is_set words e
is_set-front words w e within =
    ap (λ (n : ℕ). bit_at n (e % 64) == 1) (get_or_append_left words (w ∷ []) 0 (e / 64) (omega arith))

is_set-last : (words : List ℕ) (w i : ℕ) → i < 64
    → is_set (words ++ w ∷ []) ((0 + 64 * length words) + i) ≡ (bit_at w (0 + i) == 1)
is_set-last words w i within =
    let place : ((0 + 64 * length words) + i) / 64 ≡ length words + 0 = omega arith in
    let bit : ((0 + 64 * length words) + i) % 64 ≡ 0 + i = omega arith in
    ap (λ n. bit_at (get_or (words ++ w ∷ []) n 0) (((0 + 64 * length words) + i) % 64) == 1) place
    ∙ ap (λ (n : ℕ). bit_at n (((0 + 64 * length words) + i) % 64) == 1) (get_or-append-add words (w ∷ []) 0 0)
    ∙ ap (λ n. bit_at w n == 1) bit

entries-push : (words : List ℕ) (w : ℕ) → w < 2 ^ 64
    → length (entries_in (words ++ w ∷ [])) ≡ length (entries_in words) + ones w
entries-push words w within =
    let n : ℕ = 64 * length words in
    let more : 64 * length (words ++ w ∷ []) ≡ n + 64 = omega (arith, length-append words (w ∷ [])) in
    length-filter (is_set (words ++ w ∷ [])) (range_with_len 0 (64 * length (words ++ w ∷ [])))
    ∙ ap (λ m. count_by (is_set (words ++ w ∷ [])) (range_with_len 0 m)) more
    ∙ count-append (is_set (words ++ w ∷ [])) 0 n 64
    ∙ (λ j.
    (count-range (is_set (words ++ w ∷ [])) (is_set words) 0 0 n
    (λ i inside. is_set-front words w (0 + i) (omega arith))
    ∙ sym (length-filter (is_set words) (range_with_len 0 n)))
    j
    + (count-range (is_set (words ++ w ∷ [])) (λ i. bit_at w i == 1) (0 + n) 0 64
    (λ i inside. is_set-last words w i inside)
    ∙ count-ones 64 w within)
    j)

pub entries-more : (words : List ℕ) (i w : ℕ) → i < length words → w ≡ get_or words i 0 → w < 2 ^ 64
    → length (entries_in (take (i + 1) words)) ≡ length (entries_in (take i words)) + ones w
entries-more words i w inside is within =
    ap (λ (ws : List ℕ). length (entries_in ws)) (take_more words i 0 inside)
    ∙ ap (λ (v : ℕ). length (entries_in (take i words ++ v ∷ []))) (sym is)
    ∙ entries-push (take i words) w within
