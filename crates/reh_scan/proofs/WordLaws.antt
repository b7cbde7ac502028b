-- Words of the entries that some row has, and the first entry of words that passes a test.
use Rattle.std.proofs.Common.{◌≡◌, ◌∙◌, ◌+◌, ◌*◌, ◌/◌, ◌%◌, ◌-◌, ◌<◌, ◌≤◌, ◌&&◌, ◌||◌, Bool, true, false, List, [], ◌∷◌}
use Rattle.std.proofs.Common.{ℕ, refl, ap, sym, length, get_or, slice_index, Bor, arith}
use Rattle.std.specs.Prelude.{◌==◌, ◌^◌, bit_and, bit_or, not, slice_get, None, Some}
use Rattle.std.specs.Int.{bit_at, bit_not, w64}
use Rattle.std.specs.List.{find, list_any, range_with_len}
use Rattle.std.specs.Option.{option_or}
use Rattle.std.proofs.Math.Bool.{or-false}
use Rattle.std.proofs.lemmas.Bool.Decides.{nat_tests}
use Rattle.std.proofs.lemmas.Nat.{mod_below}
use Rattle.std.proofs.lemmas.List.Folds.{find-append, list_any-append}
use Rattle.reh_held.specs.Rows.{is_set}
use Rattle.reh_model.specs.Striping.{range, index_at, is_striped, write_set}
use Rattle.reh_model.proofs.Ranges.{list_any-map, passes_any, any_passes, same_answer}
use Rattle.reh_model.proofs.StripingLaws.{is_striped-ranks}
use Rattle.reh_stripe.specs.declared.words.Word.{Word}
use Rattle.reh_stripe.specs.Words.{has_bit, entries_in, entries_of}
use Rattle.reh_stripe.proofs.WordLaws.{has_bit-none, has_bit-and, has_bit-or, has_bit-not, find-in_word, range-append}
use Rattle.reh_scan.specs.Sources.{is_set_at}
use Rattle.reh_scan.proofs.ReadingLaws.{is_set_there}

-- Words of rows

-- one number more
pub any-range-more : (p : ℕ → Bool) (n : ℕ)
    → list_any p (range_with_len 0 (n + 1)) ≡ (list_any p (range_with_len 0 n) || p n)
any-range-more p n =
    let none : 0 + n ≡ n = omega arith in
    ap (λ (xs : List ℕ). list_any p xs) (range-append 0 n 1)
    ∙ list_any-append p (range_with_len 0 n) ((0 + n) ∷ [])
    ∙ ap (λ b. list_any p (range_with_len 0 n) || b) (or-false (p (0 + n)) ∙ ap p none)

-- whether the index carries the entry, and its row has it
abbrev pub is_read_at : List (Bor (List ℕ)) → ℕ → ℕ → ℕ → ℕ → Bool
is_read_at rows size quorum entry index = is_set_at rows entry index && is_striped entry index size quorum

-- the word has the bits that the indexes below this one give
abbrev pub IsRead : List (Bor (List ℕ)) → ℕ → ℕ → ℕ → ℕ → ℕ → Type 0
IsRead rows size quorum number index word =
    (i : ℕ) → i < 64
    → has_bit word i ≡ list_any (is_read_at rows size quorum (64 * number + i)) (range_with_len 0 index)

pub read-none : (rows : List (Bor (List ℕ))) (size quorum number : ℕ) → IsRead rows size quorum number 0 0
read-none rows size quorum number = λ i inside. has_bit-none i

-- the bits of the word that was read are those of the row's entries
pub has_bit-row : (rows : List (Bor (List ℕ))) (number index read : ℕ) (d : Bor (List ℕ)) → index < length rows
    → read ≡ slice_index (get_or rows index d).now number → (i : ℕ) → i < 64
    → has_bit read i ≡ is_set_at rows (64 * number + i) index
has_bit-row rows number index read d within is_read i inside =
    let place : (64 * number + i) / 64 ≡ number = omega arith in
    let bit : (64 * number + i) % 64 ≡ i = omega arith in
    sym (is_set_there rows index (64 * number + i) d within
    ∙ ap (λ n. bit_at (slice_index (get_or rows index d).now n) ((64 * number + i) % 64) == 1) place
    ∙ ap (λ n. bit_at (slice_index (get_or rows index d).now number) n == 1) bit
    ∙ ap (λ n. has_bit n i) (sym is_read))

pub read-more : (rows : List (Bor (List ℕ))) (size quorum number index word read carried : ℕ) (d : Bor (List ℕ))
    → index < length rows → read ≡ slice_index (get_or rows index d).now number
    → ((i : ℕ) → i < 64 → has_bit carried i ≡ is_striped (64 * number + i) index size quorum)
    → IsRead rows size quorum number index word
    → IsRead rows size quorum number (index + 1) (bit_or word (bit_and read carried))
read-more rows size quorum number index word read carried d within is_read is_carried was = λ i inside.
    has_bit-or word (bit_and read carried) i
    ∙ (λ j. was i inside j
    || (has_bit-and read carried i
    ∙ (λ k. has_bit-row rows number index read d within is_read i inside k && is_carried i inside k)) j)
    ∙ sym (any-range-more (is_read_at rows size quorum (64 * number + i)) index)

-- what holds of a member of the write set holds of an index that carries the entry
pub any-carried : (p : ℕ → Bool) (e n q : ℕ) → 1 ≤ n
    → list_any (λ i. p i && is_striped e i n q) (range_with_len 0 n) ≡ list_any p (write_set e n q)
any-carried p e n q some = same_answer _ _
    (λ any.
    let w = any_passes (λ i. p i && is_striped e i n q) 0 n any in
    let both = both_of (p w.at) (is_striped e w.at n q) w.passes in
    let v = any_passes (λ j. index_at e n j == w.at) 0 (q - 0) (sym (is_striped-ranks e w.at n q) ∙ both.1) in
    let same : index_at e n v.at ≡ w.at = grind (arith, nat_tests, v.passes) in
    list_any-map p (index_at e n) (range 0 q)
    ∙ passes_any (λ j. p (index_at e n j)) 0 (q - 0) v.at v.from v.below (ap p same ∙ both.0))
    (λ any.
    let w = any_passes (λ j. p (index_at e n j)) 0 (q - 0) (sym (list_any-map p (index_at e n) (range 0 q)) ∙ any) in
    let i : ℕ = index_at e n w.at in
    let inside : i < n = mod_below (e + w.at) n some in
    let itself : (index_at e n w.at == i) ≡ true = grind (arith, nat_tests) in
    let carried : is_striped e i n q ≡ true =
    is_striped-ranks e i n q ∙ passes_any (λ j. index_at e n j == i) 0 (q - 0) w.at w.from w.below itself in
    passes_any (λ i. p i && is_striped e i n q) 0 n i (omega arith) (omega arith) (λ j. w.passes j && carried j)) where
      both_of : (a b : Bool) → (a && b) ≡ true → (a ≡ true) × (b ≡ true)
      both_of true b is = (refl, is)
      both_of false b is = cc

pub read-all : (rows : List (Bor (List ℕ))) (size quorum number word : ℕ) → 1 ≤ size
    → IsRead rows size quorum number size word
    → (i : ℕ) → i < 64
    → has_bit word i ≡ list_any (is_set_at rows (64 * number + i)) (write_set (64 * number + i) size quorum)
read-all rows size quorum number word some was i inside =
    was i inside ∙ any-carried (is_set_at rows (64 * number + i)) (64 * number + i) size quorum some

-- The first of words

-- it is in the first word, where some bit of it is left, and else in the others
pub find-words : (p : ℕ → Bool) (w : Word) (rest : List Word) (bits : ℕ)
    → ((i : ℕ) → i < 64 → has_bit bits i ≡ (has_bit w.bits i && p (64 * w.number + i)))
    → find p (entries_of (w ∷ rest))
    ≡ option_or (slice_get (entries_in (record { number = w.number; bits = bits })) 0) (find p (entries_of rest))
find-words p w rest bits left =
    find-append p (entries_in w) (entries_of rest)
    ∙ ap (λ found. option_or found (find p (entries_of rest))) (find-in_word w bits p left)

-- the bits of a row's word are those of its entries
pub has_bit-word : (row : List ℕ) (number i : ℕ) → i < 64
    → has_bit (slice_index row number) i ≡ is_set row (64 * number + i)
has_bit-word row number i inside =
    let word : number ≡ (64 * number + i) / 64 = omega (arith, inside) in
    let bit : i ≡ (64 * number + i) % 64 = omega (arith, inside) in
    λ j. has_bit (slice_index row (word j)) (bit j)

-- what is left of a word without the entries that pass a test
pub left-bits : (p : ℕ → Bool) (bits passing number : ℕ) → passing < 2 ^ 64
    → ((i : ℕ) → i < 64 → has_bit passing i ≡ p (64 * number + i)) → (i : ℕ) → i < 64
    → has_bit (bit_and bits (bit_not w64 passing)) i ≡ (has_bit bits i && not (p (64 * number + i)))
left-bits p bits passing number small are i inside =
    has_bit-and bits (bit_not w64 passing) i
    ∙ ap (λ b. has_bit bits i && b) (has_bit-not passing i small inside ∙ ap not (are i inside))

-- an entry is left in the first word
pub found-here : (p : ℕ → Bool) (w : Word) (rest : List Word) (bits entry : ℕ)
    → ((i : ℕ) → i < 64 → has_bit bits i ≡ (has_bit w.bits i && p (64 * w.number + i)))
    → slice_get (entries_in (record { number = w.number; bits = bits })) 0 ≡ Some entry
    → find p (entries_of (w ∷ rest)) ≡ Some entry
found-here p w rest bits entry left is =
    find-words p w rest bits left ∙ ap (λ found. option_or found (find p (entries_of rest))) is

-- or none
pub found-later : (p : ℕ → Bool) (w : Word) (rest : List Word) (bits : ℕ)
    → ((i : ℕ) → i < 64 → has_bit bits i ≡ (has_bit w.bits i && p (64 * w.number + i)))
    → slice_get (entries_in (record { number = w.number; bits = bits })) 0 ≡ None
    → find p (entries_of (w ∷ rest)) ≡ find p (entries_of rest)
found-later p w rest bits left is =
    find-words p w rest bits left ∙ ap (λ found. option_or found (find p (entries_of rest))) is
