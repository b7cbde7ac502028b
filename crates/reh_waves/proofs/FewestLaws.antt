-- The fewest bookies that have all known copies of an entry.
use Rattle.std.proofs.Common.{◌≡◌, ◌∙◌, ◌<◌, ◌≤◌, ◌+◌, ◌&&◌, ◌||◌, not, cond, ℕ, Bool, true, false, List, [], ◌∷◌, ◌++◌, Option, Some, None}
use Rattle.std.proofs.Common.{length, refl, ap, sym, subst, inl, inr, nat_lt, arith, true≢false}
use Rattle.std.specs.Prelude.{min, ◌==◌}
use Rattle.std.proofs.lemmas.Bool.{cases_lt}
use Rattle.std.proofs.lemmas.Bool.Decides.{nat_tests}
use Rattle.std.proofs.lemmas.List.Sums.{sum_by_push, sum_by-le-sum_by}
use Rattle.reh_census.specs.Copies.{is_in, left}
use Rattle.reh_census.specs.Counting.{count_in}
use Rattle.reh_census.specs.Rules.{breaks_readable}
use Rattle.reh_census.specs.declared.classes.Class.{Class}
use Rattle.reh_census.specs.declared.classes.Counted.{Counted}
use Rattle.reh_census.proofs.CountLaws.{cond_mono, count-cons}
use Rattle.reh_waves.specs.Fewest.{AreFewest, IsFewest, how_many, least_of, loses_known}

equal : (x b : ℕ) → (x == b) ≡ true → x ≡ b
equal x b same = grind (arith, nat_tests)

itself : (x : ℕ) → (x == x) ≡ true
itself x = grind (arith, nat_tests)

-- Bookies of which each is among others

abbrev AreIn : List ℕ → (ℕ → Bool) → Type 0
AreIn names among = (b : ℕ) → is_in names b ≡ true → among b ≡ true

first-in : (x : ℕ) (names : List ℕ) (among : ℕ → Bool) → AreIn (x ∷ names) among → among x ≡ true
first-in x names among each = each x (ap (λ t. t || is_in names x) (itself x))

rest-in : (x : ℕ) (names : List ℕ) (among : ℕ → Bool) → AreIn (x ∷ names) among → AreIn names among
rest-in x names among each b here = each b (later (x == b) (is_in names b) here) where
  later : (new more : Bool) → more ≡ true → (new || more) ≡ true
  later true more is = refl
  later false more is = is

-- the list without the first place of a bookie
abbrev without : ℕ → List ℕ → List ℕ
without x [] = []
without x (y ∷ names) = cond (y == x) names (y ∷ without x names)

one_less : (x y : ℕ) (names : List ℕ) (same : Bool) → (y == x) ≡ same → (same ≡ false → length (without x names) + 1 ≡ length names)
    → length (without x (y ∷ names)) + 1 ≡ length (y ∷ names)
one_less x y names true is rest =
    ap (λ (t : Bool). length (cond t names (y ∷ without x names)) + 1) is
    ∙ (let one : length names + 1 ≡ length (y ∷ names) = omega arith in one)
one_less x y names false is rest =
    ap (λ (t : Bool). length (cond t names (y ∷ without x names)) + 1) is
    ∙ (let more : length (y ∷ without x names) + 1 ≡ length (y ∷ names) = omega (arith, rest refl) in more)

length-without : (x : ℕ) (names : List ℕ) → is_in names x ≡ true → length (without x names) + 1 ≡ length names
length-without x [] here = absurd (true≢false (sym here))
length-without x (y ∷ names) here =
    one_less x y names (y == x) refl
    (λ apart. length-without x names (sym (ap (λ (t : Bool). t || is_in names x) apart) ∙ here))

split : (new here more : Bool) → (new || here) ≡ true → (here ≡ true → more ≡ true) → (new || more) ≡ true
split true here more is implies = refl
split false here more is implies = implies is

still_in : (x y b : ℕ) (names : List ℕ) (same : Bool) → (y == x) ≡ same → is_in (y ∷ names) b ≡ true → (x == b) ≡ false
    → (is_in names b ≡ true → is_in (without x names) b ≡ true) → is_in (without x (y ∷ names)) b ≡ true
still_in x y b names true is here apart rest =
    let off : (y == b) ≡ false = ap (λ (z : ℕ). z == b) (equal y x is) ∙ apart in
    ap (λ (t : Bool). is_in (cond t names (y ∷ without x names)) b) is
    ∙ sym (ap (λ (t : Bool). t || is_in names b) off) ∙ here
still_in x y b names false is here apart rest =
    ap (λ (t : Bool). is_in (cond t names (y ∷ without x names)) b) is
    ∙ split (y == b) (is_in names b) (is_in (without x names) b) here rest

in-without : (x b : ℕ) (names : List ℕ) → is_in names b ≡ true → (x == b) ≡ false → is_in (without x names) b ≡ true
in-without x b [] here apart = here
in-without x b (y ∷ names) here apart =
    still_in x y b names (y == x) refl here apart (λ among. in-without x b names among apart)

-- they are no more than these
apart_from : (x b : ℕ) (names : List ℕ) (same : Bool) → is_in names x ≡ false → is_in names b ≡ true → (x == b) ≡ same → same ≡ false
apart_from x b names true off here at = absurd (true≢false (sym here ∙ ap (is_in names) (sym (equal x b at)) ∙ off))
apart_from x b names false off here at = refl

one_more : (x : ℕ) (names others : List ℕ) (again : Bool) → is_in names x ≡ again → is_in others x ≡ true
    → (again ≡ true → how_many names ≤ length others)
    → (again ≡ false → how_many names ≤ length (without x others))
    → how_many (x ∷ names) ≤ length others
one_more x names others true is here same fewer =
    omega (arith, ap (λ (t : Bool). cond {A = ℕ} t 0 1) is, same refl)
one_more x names others false is here same fewer =
    omega (arith, ap (λ (t : Bool). cond {A = ℕ} t 0 1) is, fewer refl, length-without x others here)

pub how_many-le : (names others : List ℕ) → AreIn names (is_in others) → how_many names ≤ length others
how_many-le [] others each = omega arith
how_many-le (x ∷ names) others each =
    one_more x names others (is_in names x) refl (first-in x names (is_in others) each)
    (λ again. how_many-le names others (rest-in x names (is_in others) each))
    (λ new. how_many-le names (without x others)
    (λ b here. in-without x b others (rest-in x names (is_in others) each b here)
    (let off : (x == b) ≡ false = apart_from x b names (x == b) new here refl in off)))

-- the different ones of a list
abbrev distinct : List ℕ → List ℕ
distinct [] = []
distinct (x ∷ names) = cond (is_in names x) (distinct names) (x ∷ distinct names)

counted_once : (x : ℕ) (names : List ℕ) (again : Bool) → is_in names x ≡ again → length (distinct names) ≡ how_many names
    → length (distinct (x ∷ names)) ≡ how_many (x ∷ names)
counted_once x names true is rest =
    ap (λ (t : Bool). length (cond t (distinct names) (x ∷ distinct names))) is
    ∙ (let same : length (distinct names) ≡ 0 + how_many names = omega (arith, rest) in same)
    ∙ ap (λ (t : Bool). cond {A = ℕ} t 0 1 + how_many names) (sym is)
counted_once x names false is rest =
    ap (λ (t : Bool). length (cond t (distinct names) (x ∷ distinct names))) is
    ∙ (let same : length (x ∷ distinct names) ≡ 1 + how_many names = omega (arith, rest) in same)
    ∙ ap (λ (t : Bool). cond {A = ℕ} t 0 1 + how_many names) (sym is)

length-distinct : (names : List ℕ) → length (distinct names) ≡ how_many names
length-distinct [] = refl
length-distinct (x ∷ names) = counted_once x names (is_in names x) refl (length-distinct names)

also_later : (x b : ℕ) (names : List ℕ) (same : Bool) → (x == b) ≡ same → is_in names x ≡ true → (same || is_in names b) ≡ true → is_in names b ≡ true
also_later x b names true at is told = ap (is_in names) (sym (equal x b at)) ∙ is
also_later x b names false at is told = told

still_distinct : (x b : ℕ) (names : List ℕ) (again : Bool) → is_in names x ≡ again → is_in (x ∷ names) b ≡ true
    → (is_in names b ≡ true → is_in (distinct names) b ≡ true) → is_in (distinct (x ∷ names)) b ≡ true
still_distinct x b names true is here rest =
    ap (λ (t : Bool). is_in (cond t (distinct names) (x ∷ distinct names)) b) is
    ∙ rest (also_later x b names (x == b) refl is here)
still_distinct x b names false is here rest =
    ap (λ (t : Bool). is_in (cond t (distinct names) (x ∷ distinct names)) b) is
    ∙ split (x == b) (is_in names b) (is_in (distinct names) b) here rest

in-distinct : (names : List ℕ) → AreIn names (is_in (distinct names))
in-distinct [] b here = here
in-distinct (x ∷ names) b here = still_distinct x b names (is_in names x) refl here (λ among. in-distinct names b among)

-- no copy is left where each is on a bookie that is stopped, and the other way round
left-none : (stopped : ℕ → Bool) (copies : List ℕ) → AreIn copies stopped → left stopped copies ≡ 0
left-none stopped [] each = refl
left-none stopped (x ∷ copies) each =
    omega (
      arith,
      count-cons (λ b. not (stopped b)) x copies,
      ap (λ (t : Bool). cond {A = ℕ} (not t) 1 0) (first-in x copies stopped each),
      left-none stopped copies (rest-in x copies stopped each),
    )

stopped_first : (stopped : ℕ → Bool) (x : ℕ) (copies : List ℕ) (t : Bool) → stopped x ≡ t → left stopped (x ∷ copies) ≡ 0 → t ≡ true
stopped_first stopped x copies true is none = refl
stopped_first stopped x copies false is none =
    absurd (omega (arith, count-cons (λ y. not (stopped y)) x copies, none, ap (λ (t : Bool). cond {A = ℕ} (not t) 1 0) is))

by_place : (stopped : ℕ → Bool) (x b : ℕ) (copies : List ℕ) (same : Bool) → (x == b) ≡ same → (same || is_in copies b) ≡ true
    → stopped x ≡ true → (is_in copies b ≡ true → stopped b ≡ true) → stopped b ≡ true
by_place stopped x b copies true at told first rest = ap stopped (sym (equal x b at)) ∙ first
by_place stopped x b copies false at told first rest = rest told

none-left : (stopped : ℕ → Bool) (copies : List ℕ) → left stopped copies ≡ 0 → AreIn copies stopped
none-left stopped [] none b here = absurd (true≢false (sym here))
none-left stopped (x ∷ copies) none b here =
    let rest : left stopped copies ≡ 0 = omega (arith, count-cons (λ y. not (stopped y)) x copies, none) in
    by_place stopped x b copies (x == b) refl here (stopped_first stopped x copies (stopped x) refl none)
    (λ among. none-left stopped copies rest b among)

-- A class more

none_by : (known : List ℕ) → nat_lt 0 (length known) ≡ false → (stopped : ℕ → Bool) → breaks_readable stopped known ≡ false
none_by known none stopped = ap (λ t. t && (left stopped known == 0)) none

some-lost : (stopped : List ℕ) (known : List ℕ) → breaks_readable (is_in stopped) known ≡ true → how_many known ≤ length stopped
some-lost stopped known breaks =
    how_many-le known stopped
    (none-left (is_in stopped) known (zero (left (is_in stopped) known) (second (nat_lt 0 (length known)) (left (is_in stopped) known == 0) breaks))) where
      second : (a b : Bool) → (a && b) ≡ true → b ≡ true
      second true b is = is
      second false b is = absurd (true≢false (sym is))

      zero : (n : ℕ) → (n == 0) ≡ true → n ≡ 0
      zero n is = grind (arith, nat_tests)

none_lost-by : (stopped : List ℕ) (known : List ℕ) → length stopped < how_many known → breaks_readable (is_in stopped) known ≡ false
none_lost-by stopped known fewer = by (breaks_readable (is_in stopped) known) refl where
  by : (b : Bool) → breaks_readable (is_in stopped) known ≡ b → b ≡ false
  by true is = absurd (omega (arith, fewer, some-lost stopped known is))
  by false is = refl

all-lost : (known : List ℕ) → 0 < length known → breaks_readable (is_in (distinct known)) known ≡ true
all-lost known some =
    (λ i. positive (length known) some i && none (left (is_in (distinct known)) known) (left-none (is_in (distinct known)) known (in-distinct known)) i) where
      positive : (n : ℕ) → 0 < n → nat_lt 0 n ≡ true
      positive n above = grind (arith, nat_tests)

      none : (n : ℕ) → n ≡ 0 → (n == 0) ≡ true
      none n is = grind (arith, nat_tests)

count-push : (entries : List Counted) (c : Counted) (test : Class → Bool)
    → count_in (entries ++ c ∷ []) test ≡ count_in entries test + cond (test c.class) c.count 0
count-push entries c test = sum_by_push (λ (x : Counted). cond {A = ℕ} (test x.class) x.count 0) entries c

-- a class of which nothing counts
fewest-same : (entries : List Counted) (c : Counted) (fewest : Option ℕ)
    → ((stopped : List ℕ) → cond (loses_known stopped c.class) c.count 0 ≡ 0)
    → cond (nat_lt 0 (length c.class.known)) c.count 0 ≡ 0
    → AreFewest (count_in entries) fewest → AreFewest (count_in (entries ++ c ∷ [])) fewest
fewest-same entries c None nothing known are =
    omega (arith, count-push entries c (λ class. nat_lt 0 (length class.known)), known, are)
fewest-same entries c (Some k) nothing known are = record {
  none_lost = λ stopped fewer.
      omega (arith, count-push entries c (loses_known stopped), nothing stopped, are.none_lost stopped fewer);
  some_lost = (
    are.some_lost.0,
    are.some_lost.1,
    omega (arith, count-push entries c (loses_known are.some_lost.0), are.some_lost.2),
  );
}

pub fewest-uncounted : (entries : List Counted) (c : Counted) (fewest : Option ℕ) → c.count ≡ 0
    → AreFewest (count_in entries) fewest → AreFewest (count_in (entries ++ c ∷ [])) fewest
fewest-uncounted entries c fewest none are =
    fewest-same entries c fewest (λ stopped. nought (loses_known stopped c.class)) (nought (nat_lt 0 (length c.class.known))) are where
      nought : (b : Bool) → cond b c.count 0 ≡ 0
      nought true = none
      nought false = refl

pub fewest-unknown : (entries : List Counted) (c : Counted) (fewest : Option ℕ) → length c.class.known ≡ 0
    → AreFewest (count_in entries) fewest → AreFewest (count_in (entries ++ c ∷ [])) fewest
fewest-unknown entries c fewest none are =
    let known : nat_lt 0 (length c.class.known) ≡ false = not-above (length c.class.known) none in
    fewest-same entries c fewest
    (λ stopped. ap (λ (b : Bool). cond {A = ℕ} b c.count 0) (none_by c.class.known known (is_in stopped)))
    (ap (λ (b : Bool). cond {A = ℕ} b c.count 0) known) are where
      not-above : (n : ℕ) → n ≡ 0 → nat_lt 0 n ≡ false
      not-above n is = grind (arith, nat_tests)

-- what loses a known copy has one
lost-known : (stopped : List ℕ) (class : Class) → loses_known stopped class ≡ true → nat_lt 0 (length class.known) ≡ true
lost-known stopped class = first (nat_lt 0 (length class.known)) (left (is_in stopped) class.known == 0) where
  first : (a b : Bool) → (a && b) ≡ true → a ≡ true
  first true b is = refl
  first false b is = is

none-known : (entries : List Counted) (stopped : List ℕ) → count_in entries (λ class. nat_lt 0 (length class.known)) ≡ 0
    → count_in entries (loses_known stopped) ≡ 0
none-known entries stopped none =
    let within : count_in entries (loses_known stopped) ≤ count_in entries (λ class. nat_lt 0 (length class.known)) =
    sum_by-le-sum_by (λ (x : Counted). cond {A = ℕ} (loses_known stopped x.class) x.count 0)
    (λ (x : Counted). cond {A = ℕ} (nat_lt 0 (length x.class.known)) x.count 0) entries
    (λ x. cond_mono (loses_known stopped x.class) (nat_lt 0 (length x.class.known)) x.count (lost-known stopped x.class)) in
    omega (arith, within, none)

-- a class that counts
pub fewest-counted : (entries : List Counted) (c : Counted) (fewest : Option ℕ) → 0 < c.count → 0 < length c.class.known
    → AreFewest (count_in entries) fewest
    → IsFewest (count_in (entries ++ c ∷ [])) (least_of fewest (how_many c.class.known))
fewest-counted entries c None counts known are = record {
  none_lost = λ stopped fewer.
      omega (
        arith,
        count-push entries c (loses_known stopped),
        none-known entries stopped are,
        ap (λ (b : Bool). cond {A = ℕ} b c.count 0) (none_lost-by stopped c.class.known fewer),
      );
  some_lost = (
    distinct c.class.known,
    length-distinct c.class.known,
    omega (
      arith,
      count-push entries c (loses_known (distinct c.class.known)),
      ap (λ (b : Bool). cond {A = ℕ} b c.count 0) (all-lost c.class.known known),
      counts,
    ),
  );
}
fewest-counted entries c (Some k) counts known are =
    elim (cases_lt k (how_many c.class.known)) [
      | inl less ↦
          let at : min k (how_many c.class.known) ≡ k = omega (arith, less) in
          subst (λ (n : ℕ). IsFewest (count_in (entries ++ c ∷ [])) n) (sym at) (record {
            none_lost = λ stopped fewer.
                let below : length stopped < how_many c.class.known = omega (arith, fewer, less) in
                omega (
                  arith,
                  count-push entries c (loses_known stopped),
                  are.none_lost stopped fewer,
                  ap (λ (b : Bool). cond {A = ℕ} b c.count 0) (none_lost-by stopped c.class.known below),
                );
            some_lost = (
              are.some_lost.0,
              are.some_lost.1,
              omega (arith, count-push entries c (loses_known are.some_lost.0), are.some_lost.2),
            );
          })
      | inr more ↦
          let at : min k (how_many c.class.known) ≡ how_many c.class.known = omega (arith, more) in
          subst (λ (n : ℕ). IsFewest (count_in (entries ++ c ∷ [])) n) (sym at) (record {
            none_lost = λ stopped fewer.
                let below : length stopped < k = omega (arith, fewer, more) in
                omega (
                  arith,
                  count-push entries c (loses_known stopped),
                  are.none_lost stopped below,
                  ap (λ (b : Bool). cond {A = ℕ} b c.count 0) (none_lost-by stopped c.class.known fewer),
                );
            some_lost = (
              distinct c.class.known,
              length-distinct c.class.known,
              omega (
                arith,
                count-push entries c (loses_known (distinct c.class.known)),
                ap (λ (b : Bool). cond {A = ℕ} b c.count 0) (all-lost c.class.known known),
                counts,
              ),
            );
          })
    ]
