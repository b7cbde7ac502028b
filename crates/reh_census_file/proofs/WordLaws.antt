-- The words of a line.
use Rattle.std.proofs.Common.{◌≡◌, ℕ, suc, ◌+◌, ◌-◌, ◌≤◌, Bool, true, false, cond, not, List, [], ◌∷◌, length, take, drop, refl, sym, ap, ◌∙◌, arith}
use Rattle.std.specs.Prelude.{None, count_by, position, ◌&&◌, nat_lt, nat_le}
use Rattle.std.specs.Char.{is_ascii_graphic}
use Rattle.std.specs.Str.{IsAscii, IsUtf8}
use Rattle.std.specs.List.{position_or_len, slice_split, onto_first, prefix_len, list_all}
use Rattle.std.proofs.Math.Seq.{take-length}
use Rattle.std.proofs.lemmas.Bool.Decides.{nat_tests}
use Rattle.std.proofs.lemmas.Str.{IsUtf8-from_ascii}
use Rattle.std.proofs.lemmas.Str.Ascii.{IsAscii-nil, IsAscii-cons}
use Rattle.std.proofs.lemmas.List.Sums.{prefix_len-le-length}
use Rattle.std.proofs.lemmas.List.Splits.{length-slice_split}
use Rattle.reh_census_file.specs.Canonical.{is_name}
use Rattle.reh_census_file.specs.Reading.{is_space, words_of, words_after}

one_more : (n : ℕ) → 1 + n ≡ suc n
one_more n = omega arith

-- where nothing passes, the front is the whole
pub none_found : {X : Type 0} (p : X → Bool) (xs : List X) → position p xs ≡ None → length xs ≡ position_or_len p xs
none_found p xs none = grind (arith, nat_tests, prefix_len-le-length (λ x. not (p x)) xs)

-- a line is its first word and what follows it
pub words_of-first : (line : List ℕ) → words_of line ≡ take (position_or_len is_space line) line ∷ words_after (drop (position_or_len is_space line) line)
words_of-first [] = refl
words_of-first (b ∷ bs) =
    elim (is_space b) as (λ t. cond t ([] ∷ slice_split is_space bs) (onto_first b (slice_split is_space bs)) ≡ take (cond (not t) (1 + prefix_len (λ x. not (is_space x)) bs) 0) (b ∷ bs) ∷ words_after (drop (cond (not t) (1 + prefix_len (λ x. not (is_space x)) bs) 0) (b ∷ bs))) [
      | true ↦ refl
      | false ↦ ap (onto_first b) (words_of-first bs) ∙ rw (one_more (position_or_len is_space bs)) refl
    ]

-- the words after a space are those of the bytes after it
after_first : (rest : List ℕ) → 1 ≤ length rest → words_after rest ≡ words_of (take (length rest - 1) (drop 1 rest))
after_first [] some = absurd (omega arith)
after_first (b ∷ bs) some = ap words_of (sym (take_whole bs (suc (length bs) - 1) (omega arith)))
  where
    take_whole : (xs : List ℕ) (n : ℕ) → n ≡ length xs → take n xs ≡ xs
    take_whole xs n is = ap (λ k. take k xs) is ∙ take-length xs

-- spaces part words
pub word_count-after : (rest : List ℕ) (n : ℕ) → 1 ≤ length rest → n ≡ count_by is_space (take (length rest - 1) (drop 1 rest)) → n + 1 ≡ length (words_after rest)
word_count-after rest n some is =
    ap (λ k. k + 1) is ∙ sym (length-slice_split is_space (take (length rest - 1) (drop 1 rest))) ∙ ap length (sym (after_first rest some))

printed-IsAscii : (word : List ℕ) → list_all is_ascii_graphic word ≡ true → IsAscii word
printed-IsAscii [] printed = IsAscii-nil
printed-IsAscii (b ∷ bs) printed =
    let h = split (is_ascii_graphic b) (list_all is_ascii_graphic bs) printed in
    IsAscii-cons b bs (grind (arith, nat_tests, h.0)) (printed-IsAscii bs h.1)
  where
    split : (x y : Bool) → (x && y) ≡ true → (x ≡ true) × (y ≡ true)
    split true true e = (refl, refl)
    split true false e = absurd cc
    split false y e = absurd cc

-- a name is a text
pub is_name-IsUtf8 : (word : List ℕ) → is_name word ≡ true → IsUtf8 word
is_name-IsUtf8 word named = IsUtf8-from_ascii word (printed-IsAscii word (third (nat_lt 0 (length word)) (nat_le (length word) 300) (list_all is_ascii_graphic word) named))
  where
    third : (x y z : Bool) → (x && (y && z)) ≡ true → z ≡ true
    third true true true e = refl
    third true true false e = absurd cc
    third true false z e = absurd cc
    third false y z e = absurd cc
