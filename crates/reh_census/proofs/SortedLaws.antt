-- Sorted lists of bookies.
use Rattle.std.proofs.Common.{◌≡◌, ◌∙◌, ◌<◌, ◌&&◌, ◌||◌, cond, ℕ, Bool, true, false, List, [], ◌∷◌, refl, ap, sym, subst, arith, inl, inr, true≢false}
use Rattle.std.specs.Prelude.{◌==◌}
use Rattle.std.specs.List.{filter}
use Rattle.std.proofs.lemmas.Bool.{cases_lt}
use Rattle.std.proofs.lemmas.Bool.Decides.{nat_tests}
use Rattle.reh_census.specs.Copies.{Above, Rising, is_in}
use Rattle.reh_census.proofs.RuleLaws.{any-filter}

apart : (x b : ℕ) → b < x → (x == b) ≡ false
apart x b less = grind (arith, nat_tests)

itself : (x : ℕ) → (x == x) ≡ true
itself x = grind (arith, nat_tests)

outside : (b : ℕ) (xs : List ℕ) → Above b xs → is_in xs b ≡ false
outside b [] above = refl
outside b (x ∷ xs) above = λ i. apart x b above.0 i || outside b xs above.1 i

Above-less : (x y : ℕ) (ys : List ℕ) → x < y → Above y ys → Above x ys
Above-less x y [] less above = tt
Above-less x y (z ∷ ys) less above = (omega (arith, less, above.0), Above-less x y ys less above.1)

first_in : (x : ℕ) (xs : List ℕ) → is_in (x ∷ xs) x ≡ true
first_in x xs = ap (λ b. b || is_in xs x) (itself x)

rests : (x b : ℕ) (xs ys : List ℕ) → Above x xs → Above x ys → is_in (x ∷ xs) b ≡ is_in (x ∷ ys) b
    → (same : Bool) → (x == b) ≡ same → is_in xs b ≡ is_in ys b
rests x b xs ys over above alike true same =
    let here : x ≡ b = equal x b same in
    ap (is_in xs) (sym here) ∙ outside x xs over ∙ sym (outside x ys above) ∙ ap (is_in ys) here where
      equal : (x b : ℕ) → (x == b) ≡ true → x ≡ b
      equal x b same = grind (arith, nat_tests)
rests x b xs ys over above alike false differs =
    sym (ap (λ c. c || is_in xs b) differs) ∙ alike ∙ ap (λ c. c || is_in ys b) differs

-- rising lists with the same numbers are the same
pub Rising-one : (xs ys : List ℕ) → Rising xs → Rising ys → ((b : ℕ) → is_in xs b ≡ is_in ys b) → xs ≡ ys
Rising-one [] [] one other alike = refl
Rising-one [] (y ∷ ys) one other alike = absurd (true≢false (sym (alike y ∙ first_in y ys)))
Rising-one (x ∷ xs) [] one other alike = absurd (true≢false (sym (first_in x xs) ∙ alike x))
Rising-one (x ∷ xs) (y ∷ ys) one other alike =
    elim (cases_lt x y) [
      | inl less ↦ absurd (true≢false (sym (first_in x xs) ∙ alike x ∙ outside x (y ∷ ys) (less, Above-less x y ys less other.0)))
      | inr ge ↦ elim (cases_lt y x) [
        | inl less ↦ absurd (true≢false (sym (first_in y ys) ∙ sym (alike y) ∙ outside y (x ∷ xs) (less, Above-less y x xs less one.0)))
        | inr le ↦
            let same : y ≡ x = omega (arith, ge, le) in
            let above : Above x ys = subst (λ (n : ℕ). Above n ys) same other.0 in
            let later : xs ≡ ys = Rising-one xs ys one.1 other.1
            (λ b. rests x b xs ys one.0 above (alike b ∙ ap (λ (n : ℕ). is_in (n ∷ ys) b) same) (x == b) refl) in
            λ i. sym same i ∷ later i
      ]
    ]

Above-filter : (p : ℕ → Bool) (x : ℕ) (xs : List ℕ) → Above x xs → Above x (filter p xs)
Above-filter p x [] above = tt
Above-filter p x (y ∷ ys) above =
    elim (p y) as (λ kept. Above x (cond kept (y ∷ filter p ys) (filter p ys))) [
      | true ↦ (above.0, Above-filter p x ys above.1)
      | false ↦ Above-filter p x ys above.1
    ]

pub Rising-filter : (p : ℕ → Bool) (xs : List ℕ) → Rising xs → Rising (filter p xs)
Rising-filter p [] rising = tt
Rising-filter p (x ∷ xs) rising =
    elim (p x) as (λ kept. Rising (cond kept (x ∷ filter p xs) (filter p xs))) [
      | true ↦ (Above-filter p x xs rising.0, Rising-filter p xs rising.1)
      | false ↦ Rising-filter p xs rising.1
    ]

picked : (a b t : Bool) → (t ≡ true → a ≡ b) → (a && t) ≡ (b && t)
picked a b true alike = ap (λ c. c && true) (alike refl)
picked true true false alike = refl
picked true false false alike = refl
picked false true false alike = refl
picked false false false alike = refl

-- what passes a test is the same list of all the names, and of the few of them that may pass it
pub filter-few : (p : ℕ → Bool) (all few : List ℕ) → Rising all → Rising few
    → ((b : ℕ) → p b ≡ true → is_in all b ≡ is_in few b) → filter p all ≡ filter p few
filter-few p all few rising too alike =
    Rising-one (filter p all) (filter p few) (Rising-filter p all rising) (Rising-filter p few too)
    (λ b. any-filter p b all ∙ picked (is_in all b) (is_in few b) (p b) (alike b) ∙ sym (any-filter p b few))
