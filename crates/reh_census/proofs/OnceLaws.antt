-- Names of which none comes twice.
use Rattle.std.proofs.Common.{◌≡◌, ◌∙◌, ◌+◌, ◌<◌, ◌≤◌, ◌||◌, cond, ℕ, Bool, true, false, List, [], ◌∷◌, length, get_or, take, refl, ap, subst, arith}
use Rattle.std.specs.Prelude.{◌==◌, count_by}
use Rattle.std.proofs.lemmas.Bool.Decides.{nat_tests}
use Rattle.std.proofs.lemmas.List.Sums.{sum_by_more, sum_by_more_le}
use Rattle.reh_census.specs.Copies.{EachOnce, is_in}
use Rattle.reh_census.proofs.CountLaws.{count-cons}

one_of : (same : Bool) (n : ℕ) (rest : Bool) → (rest ≡ true → 1 ≤ n) → (same || rest) ≡ true → 1 ≤ cond same 1 0 + n
one_of true n rest later some = omega arith
one_of false n rest later some = omega (arith, later some)

pub count-in : (names : List ℕ) (b : ℕ) → is_in names b ≡ true → 1 ≤ count_by (λ name. name == b) names
count-in [] b some = cc
count-in (name ∷ names) b some =
    let here : count_by (λ name. name == b) (name ∷ names) ≡ cond (name == b) 1 0 + count_by (λ name. name == b) names =
    count-cons (λ name. name == b) name names in
    omega (arith, here, one_of (name == b) (count_by (λ name. name == b) names) (is_in names b) (count-in names b) some)

none_of : (same : Bool) (n : ℕ) (rest : Bool) → (rest ≡ false → n ≡ 0) → (same || rest) ≡ false → cond same 1 0 + n ≡ 0
none_of true n rest later none = cc
none_of false n rest later none = omega (arith, later none)

pub count-out : (names : List ℕ) (b : ℕ) → is_in names b ≡ false → count_by (λ name. name == b) names ≡ 0
count-out [] b none = refl
count-out (name ∷ names) b none =
    count-cons (λ name. name == b) name names
    ∙ none_of (name == b) (count_by (λ name. name == b) names) (is_in names b) (count-out names b) none

equal : (x b : ℕ) → (x == b) ≡ true → x ≡ b
equal x b same = grind (arith, nat_tests)

itself : (x : ℕ) → 1 ≤ cond (x == x) 1 0
itself x = grind (arith, nat_tests)

-- one more that isn't there yet
pub once-more : (names : List ℕ) (i d : ℕ) → i < length names → is_in (take i names) (get_or names i d) ≡ false
    → EachOnce (take i names) → EachOnce (take (i + 1) names)
once-more names i d within new once b =
    let more : count_by (λ n. n == b) (take (i + 1) names) ≡ count_by (λ n. n == b) (take i names) + cond (get_or names i d == b) 1 0 =
    sum_by_more (λ n. cond (n == b) 1 0) names i d within in
    omega (arith, more, kept (get_or names i d) (take i names) new (once b) (get_or names i d == b) refl) where
      kept : (name : ℕ) (before : List ℕ) → is_in before name ≡ false → count_by (λ n. n == b) before ≤ 1 → (same : Bool) → (name == b) ≡ same
          → count_by (λ n. n == b) before + cond (name == b) 1 0 ≤ 1
      kept name before new once true same =
          let none : count_by (λ n. n == b) before ≡ 0 =
          subst (λ (m : ℕ). count_by (λ n. n == m) before ≡ 0) (equal name b same) (count-out before name new) in
          omega (arith, none, ap (λ (c : Bool). cond {A = ℕ} c 1 0) same)
      kept name before new once false other = omega (arith, once, ap (λ (c : Bool). cond {A = ℕ} c 1 0) other)

-- one that is there already
pub twice : (names : List ℕ) (i d : ℕ) → i < length names → is_in (take i names) (get_or names i d) ≡ true → EachOnce names → ⊥
twice names i d within old once =
    let name : ℕ = get_or names i d in
    let all : count_by (λ n. n == name) (take i names) + cond (name == name) 1 0 ≤ count_by (λ n. n == name) names =
    sum_by_more_le (λ n. cond (n == name) 1 0) names i d within in
    omega (arith, all, itself name, count-in (take i names) name old, once name)

-- the first of different names isn't among the others, and these are different too
pub once-first : (name : ℕ) (names : List ℕ) → EachOnce (name ∷ names) → (is_in names name ≡ false) × EachOnce names
once-first name names once = (
  absent (is_in names name) refl,
  λ b. omega (arith, once b, count-cons (λ n. n == b) name names),
) where
  absent : (there : Bool) → is_in names name ≡ there → there ≡ false
  absent true is =
      absurd (omega (arith, once name, count-cons (λ n. n == name) name names, itself name, count-in names name is))
  absent false is = refl
