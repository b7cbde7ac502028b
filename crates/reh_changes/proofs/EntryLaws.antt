-- The entries of the ranges, and the entries between them.
use Rattle.std.proofs.Common.{◌≡◌, ℕ, zero, suc, ◌+◌, ◌*◌, ◌-◌, ◌<◌, ◌≤◌, Bool, true, false, cond, ◌&&◌, ◌||◌, List, [], ◌∷◌, refl, ap, ◌∙◌, arith, nat_lt, nat_le}
use Rattle.std.specs.Prelude.{◌/◌, ◌==◌, All, Option, None, Some}
use Rattle.std.specs.Option.{ForSome}
use Rattle.std.proofs.lemmas.Bool.Decides.{nat_tests}
use Rattle.std.proofs.lemmas.List.Elements.{All-nil, All-cons, All-weaker}
use Rattle.reh_changes.specs.Ranges.{ranges_on, ranges_in, is_in_one, AreApart}

-- from one entry on, before another one
abbrev lies : ℕ → ℕ → ℕ → Bool
lies from until x = nat_le from x && nat_lt x until

-- in the range that is open
abbrev lies_open : Option ℕ → ℕ → ℕ → Bool
lies_open None e x = false
lies_open (Some first) e x = lies first e x

-- One entry more

-- no range is open, and the next entry passes
opened : (e n x : ℕ) (passes : Bool) → (x ≡ e → passes ≡ true)
    → (lies e (e + 1) x || (lies (e + 1) (e + 1 + n) x && passes)) ≡ (lies e (e + suc n) x && passes)
opened e n x true here = grind (arith, nat_tests)
opened e n x false here = grind (arith, nat_tests, here)

-- or doesn't pass
skipped : (e n x : ℕ) (passes : Bool) → (x ≡ e → passes ≡ false)
    → (lies (e + 1) (e + 1 + n) x && passes) ≡ (lies e (e + suc n) x && passes)
skipped e n x true here = grind (arith, nat_tests, here)
skipped e n x false here = grind (arith, nat_tests)

-- a range is open, and the next entry passes
longer : (first e n x : ℕ) (passes : Bool) → first < e → (x ≡ e → passes ≡ true)
    → (lies first (e + 1) x || (lies (e + 1) (e + 1 + n) x && passes)) ≡ (lies first e x || (lies e (e + suc n) x && passes))
longer first e n x true before here = grind (arith, nat_tests)
longer first e n x false before here = grind (arith, nat_tests, here)

-- or doesn't pass
closed : (first e n x : ℕ) (passes : Bool) → first < e → (x ≡ e → passes ≡ false)
    → ((nat_le first x && nat_le x (e - 1)) || (lies (e + 1) (e + 1 + n) x && passes)) ≡ (lies first e x || (lies e (e + suc n) x && passes))
closed first e n x true before here = grind (arith, nat_tests, here)
closed first e n x false before here = grind (arith, nat_tests)

last_one : (first e x : ℕ) (passes : Bool) → first < e
    → ((nat_le first x && nat_le x (e - 1)) || false) ≡ (lies first e x || (lies e (e + 0) x && passes))
last_one first e x true before = grind (arith, nat_tests)
last_one first e x false before = grind (arith, nat_tests)

no_more : (e x : ℕ) (passes : Bool) → false ≡ (lies e (e + 0) x && passes)
no_more e x true = grind (arith, nat_tests)
no_more e x false = grind (arith, nat_tests)

-- Ranges

-- in the open range, or passed later
in_ranges : (test : ℕ → Bool) (since : Option ℕ) (e n x : ℕ) → ForSome since (λ first. first < e)
    → is_in_one (ranges_on test since e n) x ≡ (lies_open since e x || (lies e (e + n) x && test x))
unfolding ranges_on
in_ranges test None e zero x begun = no_more e x (test x)
in_ranges test (Some first) e zero x begun = last_one first e x (test x) (begun first refl)
in_ranges test None e (suc n) x begun =
    elim (test e) as (λ t. test e ≡ t → is_in_one (cond t (ranges_on test (Some e) (e + 1) n) (ranges_on test None (e + 1) n)) x ≡ (lies e (e + suc n) x && test x)) [
      | true ↦ λ is.
          in_ranges test (Some e) (e + 1) n x (λ first same. let first_is : e ≡ first = cc in omega arith)
          ∙ opened e n x (test x) (λ here. ap test here ∙ is)
      | false ↦ λ is.
          in_ranges test None (e + 1) n x (λ first none. cc)
          ∙ skipped e n x (test x) (λ here. ap test here ∙ is)
    ] refl
in_ranges test (Some first) e (suc n) x begun =
    let before : first < e = begun first refl in
    elim (test e) as (λ t. test e ≡ t → is_in_one (cond t (ranges_on test (Some first) (e + 1) n) ((first, e - 1) ∷ ranges_on test None (e + 1) n)) x
    ≡ (lies first e x || (lies e (e + suc n) x && test x))) [
      | true ↦ λ is.
          in_ranges test (Some first) (e + 1) n x (λ other same. let first_is : first ≡ other = cc in omega arith)
          ∙ longer first e n x (test x) before (λ here. ap test here ∙ is)
      | false ↦ λ is.
          ap (λ later. (nat_le first x && nat_le x (e - 1)) || later) (in_ranges test None (e + 1) n x (λ first none. cc))
          ∙ closed first e n x (test x) before (λ here. ap test here ∙ is)
    ] refl

-- where the first range begins at the earliest
abbrev earliest : Option ℕ → ℕ → ℕ
earliest None e = e
earliest (Some first) e = first

apart : (test : ℕ → Bool) (since : Option ℕ) (e n : ℕ) → ForSome since (λ first. first < e)
    → AreApart (ranges_on test since e n) × All (λ range. earliest since e ≤ range.0) (ranges_on test since e n)
unfolding ranges_on
apart test None e zero begun = (tt, All-nil (λ (range : ℕ × ℕ). e ≤ range.0))
apart test (Some first) e zero begun =
    let before : first < e = begun first refl in
    let ends : first ≤ e - 1 = omega arith in
    let same : first ≤ first = omega arith in (
      (ends, All-nil (λ (later : ℕ × ℕ). e - 1 + 1 < later.0), tt),
      All-cons (λ (range : ℕ × ℕ). first ≤ range.0) (first, e - 1) [] same (All-nil (λ (range : ℕ × ℕ). first ≤ range.0)),
    )
apart test None e (suc n) begun =
    let ranges : Bool → List (ℕ × ℕ) = λ t. cond t (ranges_on test (Some e) (e + 1) n) (ranges_on test None (e + 1) n) in
    elim (test e) as (λ t. AreApart (ranges t) × All (λ (range : ℕ × ℕ). e ≤ range.0) (ranges t)) [
      | true ↦ apart test (Some e) (e + 1) n (λ first same. let first_is : e ≡ first = cc in omega arith)
      | false ↦
          let rest = apart test None (e + 1) n (λ first none. cc) in
          (rest.0, All-weaker (λ (range : ℕ × ℕ). e + 1 ≤ range.0) (λ (range : ℕ × ℕ). e ≤ range.0) (λ range later. omega (arith, later)) (ranges_on test None (e + 1) n) rest.1)
    ]
apart test (Some first) e (suc n) begun =
    let before : first < e = begun first refl in
    let ranges : Bool → List (ℕ × ℕ) = λ t. cond t (ranges_on test (Some first) (e + 1) n) ((first, e - 1) ∷ ranges_on test None (e + 1) n) in
    elim (test e) as (λ t. AreApart (ranges t) × All (λ (range : ℕ × ℕ). first ≤ range.0) (ranges t)) [
      | true ↦ apart test (Some first) (e + 1) n (λ other same. let first_is : first ≡ other = cc in omega arith)
      | false ↦
          let rest = apart test None (e + 1) n (λ first none. cc) in
          let ends : first ≤ e - 1 = omega arith in
          let same : first ≤ first = omega arith in
          let more = ranges_on test None (e + 1) n in (
            (ends, All-weaker (λ (range : ℕ × ℕ). e + 1 ≤ range.0) (λ (later : ℕ × ℕ). e - 1 + 1 < later.0) (λ range later. omega (arith, later)) more rest.1, rest.0),
            All-cons (λ (range : ℕ × ℕ). first ≤ range.0) (first, e - 1) more same
                (All-weaker (λ (range : ℕ × ℕ). e + 1 ≤ range.0) (λ (range : ℕ × ℕ). first ≤ range.0) (λ range later. omega (arith, later)) more rest.1),
          )
    ]

-- Words

in_word : (number x : ℕ) → lies (64 * number) (64 * number + 64) x ≡ (x / 64 == number)
in_word number x = grind (arith, nat_tests)

pub ranges_in-entries : (number : ℕ) (test : ℕ → Bool) (e : ℕ) → is_in_one (ranges_in number test) e ≡ ((e / 64 == number) && test e)
ranges_in-entries number test e =
    in_ranges test None (64 * number) 64 e (λ first none. cc) ∙ ap (λ within. within && test e) (in_word number e)

pub ranges_in-apart : (number : ℕ) (test : ℕ → Bool) → AreApart (ranges_in number test)
ranges_in-apart number test = (apart test None (64 * number) 64 (λ first none. cc)).0
