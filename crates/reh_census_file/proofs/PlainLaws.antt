-- Words without spaces and line ends: their lines are parted again.
use Rattle.std.proofs.Common.{◌≡◌, ℕ, ◌^◌, ◌<◌, ◌≤◌, Bool, true, false, cond, not, List, [], ◌∷◌, ◌++◌, length, map, get_or, refl, sym, ap, subst, ◌∙◌, arith}
use Rattle.std.specs.Prelude.{◌&&◌, ◌==◌, nat_lt, nat_le}
use Rattle.std.specs.Char.{is_ascii_graphic, digit_value}
use Rattle.std.specs.Fmt.{decimal}
use Rattle.std.specs.List.{AllByRecursion, list_all, slice_split, onto_first}
use Rattle.std.proofs.lemmas.Bool.Decides.{nat_tests}
use Rattle.std.specs.Str.Parse.{AllDigits}
use Rattle.std.proofs.lemmas.Fmt.{decimal_is_IsNumeral_wide}
use Rattle.std.proofs.lemmas.Str.Parse.{digit_from_value}
use Rattle.std.proofs.lemmas.List.{append-nil}
use Rattle.std.proofs.lemmas.Option.{unwrap_or-slice_get}
use mathlib.Core.List.{append_assoc}
use Rattle.reh_census_file.specs.Canonical.{is_name}
use Rattle.reh_census_file.specs.Lines.{behind_spaces, line_of, lines_of}
use Rattle.reh_census_file.specs.Reading.{is_space, words_of}
use Rattle.reh_census_file.specs.Texts.{names_of}
use Rattle.reh_census_file.specs.Whole.{is_line_end, parts_of}
use Rattle.reh_census_file.proofs.TokenAgain.{all_get}

abbrev pub Line : Type 0
Line = List (List ℕ)

abbrev pub is_plain : ℕ → Bool
is_plain b = not (b == 32) && not (b == 10)

-- a word that its line can have
abbrev pub IsPlain : List ℕ → Type 0
IsPlain word = list_all is_plain word ≡ true

abbrev pub ArePlain : Line → Type 0
ArePlain words = AllByRecursion IsPlain words

pub ArePlain-append : (xs ys : Line) → ArePlain xs → ArePlain ys → ArePlain (xs ++ ys)
ArePlain-append [] ys left right = right
ArePlain-append (x ∷ xs) ys left right = (left.0, ArePlain-append xs ys left.1 right)

and_true : (a b : Bool) → (a && b) ≡ true → (a ≡ true) × (b ≡ true)
and_true true true e = (refl, refl)
and_true true false e = absurd cc
and_true false b e = absurd cc

implied : (p q : ℕ → Bool) → ((b : ℕ) → p b ≡ true → q b ≡ true) → (bs : List ℕ) → list_all p bs ≡ true → list_all q bs ≡ true
implied p q all [] e = refl
implied p q all (b ∷ bs) e =
    let h = and_true (p b) (list_all p bs) e in
    ap (λ t. t && list_all q bs) (all b h.0) ∙ implied p q all bs h.1

digit_plain : (b : ℕ) → digit_value b < 10 → is_plain b ≡ true
digit_plain b digit = let range = digit_from_value b digit in grind (arith, nat_tests, range)

pub decimal-plain_wide : (n : ℕ) → n < 10 ^ 64 → IsPlain (decimal n)
decimal-plain_wide n small = go (decimal n) (decimal_is_IsNumeral_wide n small).0.1
  where
    go : (bs : List ℕ) → AllDigits 10 bs → IsPlain bs
    go [] digits = refl
    go (b ∷ bs) digits = ap (λ t. t && list_all is_plain bs) (digit_plain b digits.0) ∙ go bs digits.1

pub decimal-plain : (n : ℕ) → n ≤ 2 ^ 63 → IsPlain (decimal n)
decimal-plain n small = decimal-plain_wide n (omega arith)

pub name-plain : (name : List ℕ) → is_name name ≡ true → IsPlain name
name-plain name named =
    let h = and_true (nat_lt 0 (length name)) (nat_le (length name) 300 && list_all is_ascii_graphic name) named in
    let k = and_true (nat_le (length name) 300) (list_all is_ascii_graphic name) h.1 in
    implied is_ascii_graphic is_plain graphic name k.1
  where
    graphic : (b : ℕ) → is_ascii_graphic b ≡ true → is_plain b ≡ true
    graphic b e = grind (arith, nat_tests)

pub names-plain : (names : Line) (bookies : List ℕ) → AllByRecursion (λ (name : List ℕ). is_name name ≡ true) names → AllByRecursion (λ b. b < length names) bookies → ArePlain (names_of names bookies)
names-plain names [] named within = tt
names-plain names (b ∷ bookies) named within =
    (subst IsPlain (sym (unwrap_or-slice_get names b [])) (name-plain (get_or names b []) (all_get (λ name. is_name name ≡ true) names b named within.0)), names-plain names bookies named within.1)

-- Lines

abbrev pub spaced : Line → List ℕ
spaced [] = []
spaced (word ∷ words) = word ++ behind_spaces words

module _ (p : ℕ → Bool) where
  split_at : (front : List ℕ) (y : ℕ) (rest : List ℕ) → list_all (λ b. not (p b)) front ≡ true → p y ≡ true → slice_split p (front ++ y ∷ rest) ≡ front ∷ slice_split p rest
  split_at [] y rest none at = ap (λ t. cond t ([] ∷ slice_split p rest) (onto_first y (slice_split p rest))) at
  split_at (b ∷ bs) y rest none at =
      let h = and_true (not (p b)) (list_all (λ b. not (p b)) bs) none in
      ap (λ t. cond t ([] ∷ slice_split p (bs ++ y ∷ rest)) (onto_first b (slice_split p (bs ++ y ∷ rest)))) (not_true (p b) h.0) ∙ ap (onto_first b) (split_at bs y rest h.1 at)
    where
      not_true : (t : Bool) → not t ≡ true → t ≡ false
      not_true true e = absurd cc
      not_true false e = refl

  split_all : (front : List ℕ) → list_all (λ b. not (p b)) front ≡ true → slice_split p front ≡ front ∷ []
  split_all [] none = refl
  split_all (b ∷ bs) none =
      let h = and_true (not (p b)) (list_all (λ b. not (p b)) bs) none in
      ap (λ t. cond t ([] ∷ slice_split p bs) (onto_first b (slice_split p bs))) (not_true (p b) h.0) ∙ ap (onto_first b) (split_all bs h.1)
    where
      not_true : (t : Bool) → not t ≡ true → t ≡ false
      not_true true e = absurd cc
      not_true false e = refl

no_space : (b : ℕ) → is_plain b ≡ true → not (is_space b) ≡ true
no_space b e = (and_true (not (b == 32)) (not (b == 10)) e).0

no_end : (b : ℕ) → is_plain b ≡ true → not (is_line_end b) ≡ true
no_end b e = (and_true (not (b == 32)) (not (b == 10)) e).1

pub words_of-spaced : (word : List ℕ) (words : Line) → ArePlain (word ∷ words) → words_of (spaced (word ∷ words)) ≡ word ∷ words
words_of-spaced word [] plain = ap words_of (append-nil word) ∙ split_all is_space word (implied is_plain (λ b. not (is_space b)) no_space word plain.0)
words_of-spaced word (next ∷ words) plain =
    split_at is_space word 32 (spaced (next ∷ words)) (implied is_plain (λ b. not (is_space b)) no_space word plain.0) refl
    ∙ ap (λ ws. word ∷ ws) (words_of-spaced next words plain.1)

all_append : (p : ℕ → Bool) (xs ys : List ℕ) → list_all p xs ≡ true → list_all p ys ≡ true → list_all p (xs ++ ys) ≡ true
all_append p [] ys left right = right
all_append p (x ∷ xs) ys left right =
    let h = and_true (p x) (list_all p xs) left in
    ap (λ t. t && list_all p (xs ++ ys)) h.0 ∙ all_append p xs ys h.1 right

spaces_no_end : (words : Line) → ArePlain words → list_all (λ b. not (is_line_end b)) (behind_spaces words) ≡ true
spaces_no_end [] plain = refl
spaces_no_end (word ∷ words) plain = all_append (λ b. not (is_line_end b)) word (behind_spaces words) (implied is_plain (λ b. not (is_line_end b)) no_end word plain.0) (spaces_no_end words plain.1)

-- a line with words
abbrev pub IsPlainLine : Line → Type 0
IsPlainLine [] = ⊥
IsPlainLine (word ∷ words) = ArePlain (word ∷ words)

pub parts_of-line : (line : Line) (rest : List ℕ) → IsPlainLine line → parts_of (line_of line ++ rest) ≡ spaced line ∷ parts_of rest
parts_of-line [] rest plain = absurd plain
parts_of-line (word ∷ words) rest plain =
    let clean = all_append (λ b. not (is_line_end b)) word (behind_spaces words) (implied is_plain (λ b. not (is_line_end b)) no_end word plain.0) (spaces_no_end words plain.1) in
    let grouped : (word ++ (behind_spaces words ++ 10 ∷ [])) ++ rest ≡ (word ++ behind_spaces words) ++ 10 ∷ rest =
    ap (λ t. t ++ rest) (sym (append_assoc word (behind_spaces words) (10 ∷ []))) ∙ append_assoc (word ++ behind_spaces words) (10 ∷ []) rest in
    ap parts_of grouped ∙ split_at is_line_end (word ++ behind_spaces words) 10 rest clean refl

pub parts_of-lines : (lines : List Line) (rest : List ℕ) → AllByRecursion IsPlainLine lines → parts_of (lines_of lines ++ rest) ≡ map spaced lines ++ parts_of rest
parts_of-lines [] rest plain = refl
parts_of-lines (line ∷ lines) rest plain =
    ap parts_of (append_assoc (line_of line) (lines_of lines) rest) ∙ parts_of-line line (lines_of lines ++ rest) plain.0 ∙ ap (λ ps. spaced line ∷ ps) (parts_of-lines lines rest plain.1)
