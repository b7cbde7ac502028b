-- Names by their bytes: what is found among them, and that they are few and different.
use Rattle.std.proofs.Common.{◌≡◌, ℕ, Bool, List, [], ◌∷◌, map, position, length, nat_lt, cond, not, refl, sym, ap, ◌∙◌, Some, None, ◌+◌, ◌≤◌, arith, subst, String, false, ◌||◌}
use Rattle.std.proofs.lemmas.List.{length-map}
use Rattle.std.specs.List.{prefix_len, position_or_len, AllByRecursion, IsDistinct, list_any}
use Rattle.std.specs.Str.{IsUtf8, bytes_eq}
use Rattle.std.specs.String.{string_bytes}
use Rattle.std.proofs.lemmas.Str.{IsUtf8-string_bytes}
use Rattle.std.proofs.lemmas.Slice.Eq.{bytes_eq-Decides}
use Rattle.std.proofs.lemmas.Bool.{false_from_ne_true}
use Rattle.reh_census_file.specs.declared.lists.TheConstants.{MAX_NAMES}
use Rattle.reh_census_file.specs.Names.{IsNameList}

module _ {A B : Type 0} (f : A → B) where
  pub prefix_len-map : (p : B → Bool) (xs : List A) → prefix_len p (map f xs) ≡ prefix_len (λ x. p (f x)) xs
  prefix_len-map p [] = refl
  prefix_len-map p (x ∷ xs) = ap (λ n. cond (p (f x)) (1 + n) 0) (prefix_len-map p xs)

  -- the first name that passes the test
  pub position-map : (p : B → Bool) (xs : List A) → position p (map f xs) ≡ position (λ x. p (f x)) xs
  position-map p xs =
      ap (λ n. cond (nat_lt n (length (map f xs))) (Some n) None) (prefix_len-map (λ y. not (p y)) xs)
      ∙ ap (λ n. cond (nat_lt (prefix_len (λ x. not (p (f x))) xs) n) (Some (prefix_len (λ x. not (p (f x))) xs)) None) (length-map xs f)

-- a test that no element passes finds no place
position_none : {X : Type 0} (p : X → Bool) → ((x : X) → p x ≡ false) → (xs : List X) → position p xs ≡ None
position_none {X = X} p never xs = let past : position_or_len p xs ≡ length xs = all xs in grind (arith, past)
  where
    all : (xs : List X) → position_or_len p xs ≡ length xs
    all [] = refl
    all (x ∷ xs) = ap (λ b. cond (not b) (1 + prefix_len (λ y. not (p y)) xs) 0) (never x) ∙ ap (λ n. 1 + n) (all xs) ∙ omega arith

-- what is tested of each element is tested of what it is seen as
pub list_any-map : {X Y : Type 0} (p : Y → Bool) (f : X → Y) (xs : List X) → list_any p (map f xs) ≡ list_any (λ x. p (f x)) xs
list_any-map p f [] = refl
list_any-map p f (x ∷ xs) = ap (λ b. p (f x) || b) (list_any-map p f xs)

-- bytes that are no text are no text's bytes
differs_from_text : (q n : List ℕ) → ¬ (IsUtf8 q) → IsUtf8 n → bytes_eq q n ≡ false
differs_from_text q n none text = false_from_ne_true _ (λ same. none (subst IsUtf8 (sym ((bytes_eq-Decides q n).0 same)) text))

-- bytes that are no text are no name
pub position_no_text : {Z : Type 0} (q : List ℕ) (names : List (String Z)) → ¬ (IsUtf8 q) → position (bytes_eq q) (map string_bytes names) ≡ None
position_no_text q names none = position-map string_bytes (bytes_eq q) names ∙ position_none _ (λ s. differs_from_text q (string_bytes s) none (IsUtf8-string_bytes s)) names

-- the place of a name among the texts is its place among their bytes
pub found_text : {Z : Type 0} (q t : List ℕ) (texts : List (String Z)) (names : List (List ℕ)) → t ≡ q → map string_bytes texts ≡ names → position (λ s. bytes_eq t (string_bytes s)) texts ≡ position (bytes_eq q) names
found_text q t texts names e seen =
    sym (position-map string_bytes (bytes_eq t) texts)
    ∙ ap (λ b. position (bytes_eq b) (map string_bytes texts)) e
    ∙ ap (position (bytes_eq q)) seen

module _ {A B : Type 0} (f : A → B) (e : B → B → Bool) where
  away-map : (x : A) (xs : List A) → AllByRecursion (λ y. e (f x) (f y) ≡ false) xs → AllByRecursion (λ y. e (f x) y ≡ false) (map f xs)
  away-map x [] away = tt
  away-map x (y ∷ ys) away = (away.0, away-map x ys away.1)

  -- elements that differ by what they are seen as are seen as different ones
  pub IsDistinct-map : (xs : List A) → IsDistinct (λ a b. e (f a) (f b)) xs → IsDistinct e (map f xs)
  unfolding IsDistinct
  IsDistinct-map [] different = tt
  IsDistinct-map (x ∷ xs) different = (away-map x xs different.0, IsDistinct-map xs different.1)

-- the bytes of texts that differ, no more than there can be names
pub IsNameList-keys : {Z : Type 0} (keys : List (String Z)) → length keys ≤ MAX_NAMES → IsDistinct (λ a b. bytes_eq (string_bytes a) (string_bytes b)) keys → IsNameList (map string_bytes keys)
IsNameList-keys keys few different = record { few = omega (arith, length-map keys string_bytes); different = IsDistinct-map string_bytes bytes_eq keys different }
