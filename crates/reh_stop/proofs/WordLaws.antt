-- Words, and what stands between their commas.
use Rattle.std.proofs.Common.{◌≡◌, ◌∙◌, ◌<◌, ◌≤◌, ◌+◌, ◌++◌, ◌∷◌, ◌&&◌, [], ap, sym, append-nil, ℕ, true, false, List, get_or, length, take, arith}
use Rattle.std.specs.Borrow.{Bor}
use Rattle.std.specs.List.{flat_map, list_all}
use Rattle.std.specs.Prelude.{nat_lt}
use Rattle.std.proofs.lemmas.Bool.Decides.{nat_tests}
use Rattle.std.proofs.lemmas.List.{length-map, take_more}
use Rattle.std.proofs.lemmas.List.Concat.{flat_map-append}
use Rattle.std.proofs.lemmas.List.Folds.{list_all-map}
use Rattle.reh_stop.specs.Named.{is_ambiguous, is_name, parts_of, texts}

-- one word more
pub with_word : {A B : Type 0} (f : A → List B) (xs : List A) (k : ℕ) (d : A) (before after : List B) → k < length xs
    → before ≡ flat_map f (take k xs) → after ≡ before ++ f (get_or xs k d) → after ≡ flat_map f (take (k + 1) xs)
with_word f xs k d before after within passed more =
    more ∙ ap (λ ys. ys ++ f (get_or xs k d)) passed
    ∙ sym (ap (flat_map f) (take_more xs k d within) ∙ flat_map-append f (take k xs) (get_or xs k d ∷ [])
    ∙ ap (λ ys. flat_map f (take k xs) ++ ys) (append-nil (f (get_or xs k d))))

more-than-one : (n : ℕ) → 1 < n → nat_lt 1 n ≡ true
more-than-one n more = grind (arith, nat_tests)

pub no-more : (n : ℕ) → n ≤ 1 → nat_lt 1 n ≡ false
no-more n few = grind (arith, nat_tests)

module _ (names : List (List ℕ)) (word : List ℕ) (parts : List (Bor (List ℕ))) (named : is_name names word ≡ true) (are : texts parts ≡ parts_of word) where
  many : length (parts_of word) ≡ length parts
  many = sym (ap length are) ∙ length-map parts (λ part. part.now)

  all : list_all (is_name names) (parts_of word) ≡ list_all (λ part. is_name names part.now) parts
  all = sym (ap (list_all (is_name names)) are) ∙ list_all-map (is_name names) (λ (part : Bor (List ℕ)). part.now) parts

  pub several : 1 < length parts → is_ambiguous names word ≡ list_all (λ part. is_name names part.now) parts
  several more =
      (λ i. named i && (nat_lt 1 (many i) && all i))
      ∙ ap (λ b. true && (b && list_all (λ part. is_name names part.now) parts)) (more-than-one (length parts) more)

  pub alone : length parts ≤ 1 → is_ambiguous names word ≡ false
  alone few =
      (λ i. named i && (nat_lt 1 (many i) && all i))
      ∙ ap (λ b. true && (b && list_all (λ part. is_name names part.now) parts)) (no-more (length parts) few)
