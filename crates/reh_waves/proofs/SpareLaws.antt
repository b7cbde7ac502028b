-- The least number of copies of acknowledged entries.
use Rattle.std.proofs.Common.{◌≡◌, ◌∙◌, ◌<◌, ◌≤◌, ◌+◌, ◌-◌, ◌||◌, cond, ℕ, Bool, true, false, List, [], ◌∷◌, ◌++◌, Option, Some, None}
use Rattle.std.proofs.Common.{refl, ap, sym, subst, inl, inr, nat_lt, arith}
use Rattle.std.specs.Prelude.{min, ◌==◌}
use Rattle.std.specs.List.{list_any}
use Rattle.std.proofs.lemmas.Bool.{cases_lt}
use Rattle.std.proofs.lemmas.Bool.Decides.{nat_tests}
use Rattle.std.proofs.lemmas.List.Sums.{sum_by_push, sum_by-le-sum_by}
use Rattle.reh_census.specs.Bookies.{Bookies}
use Rattle.reh_census.specs.Counting.{count_tails_in}
use Rattle.reh_census.specs.Striping.{range}
use Rattle.reh_census.specs.declared.censuses.CountedTail.{CountedTail}
use Rattle.reh_census.specs.declared.censuses.Tail.{Tail}
use Rattle.reh_census.proofs.CountLaws.{cond_mono}
use Rattle.reh_rules.proofs.RangeTests.{none_passes, one_passes}
use Rattle.reh_waves.specs.Fewest.{AreLeastSpare, IsLeastOf, IsLeastSpare, least_of, spare}

-- The least of values

pub least-one : (value : ℕ → ℕ) (least : ℕ) → least ≡ value 0 → IsLeastOf value 1 least
least-one value least is = record {
  each = λ k below. let first : 0 ≡ k = omega (arith, below) in omega (arith, is, ap value first);
  some = (0, omega arith, sym is);
}

pub least-more : (value : ℕ → ℕ) (n least more : ℕ) → IsLeastOf value n least → more ≡ value n → IsLeastOf value (n + 1) (min least more)
least-more value n least more l is = record {
  each = λ k below. elim (cases_lt k n) [
    | inl before ↦ omega (arith, l.each k before)
    | inr from ↦ let at : n ≡ k = omega (arith, below, from) in omega (arith, is, ap value at)
  ];
  some = elim (cases_lt least more) [
    | inl less ↦
        (l.some.0, omega (arith, l.some.1), l.some.2 ∙ (let at : least ≡ min least more = omega (arith, less) in at))
    | inr past ↦
        (n, omega arith, sym is ∙ (let at : more ≡ min least more = omega (arith, past) in at))
  ];
}

-- Ledgers more

none-less : (bookies : Bookies) (tail : Tail) (least copies : ℕ) → IsLeastOf (spare bookies tail) tail.size least → copies ≤ least
    → list_any (λ entry. nat_lt (spare bookies tail entry) copies) (range 0 tail.size) ≡ false
none-less bookies tail least copies l within =
    none_passes (λ entry. nat_lt (spare bookies tail entry) copies) 0 (tail.size - 0)
    (λ k from below. not-less (spare bookies tail k) copies (omega (arith, within, l.each k (omega (arith, below))))) where
      not-less : (n m : ℕ) → m ≤ n → nat_lt n m ≡ false
      not-less n m above = grind (arith, nat_tests)

some-has : (bookies : Bookies) (tail : Tail) (least : ℕ) → IsLeastOf (spare bookies tail) tail.size least
    → list_any (λ entry. spare bookies tail entry == least) (range 0 tail.size) ≡ true
some-has bookies tail least l =
    one_passes (λ entry. spare bookies tail entry == least) 0 (tail.size - 0) l.some.0 (omega arith) (omega (arith, l.some.1))
    (itself (spare bookies tail l.some.0) least l.some.2) where
      itself : (n m : ℕ) → n ≡ m → (n == m) ≡ true
      itself n m same = grind (arith, nat_tests)

tails-push : (tails : List CountedTail) (c : CountedTail) (test : Tail → Bool)
    → count_tails_in (tails ++ c ∷ []) test ≡ count_tails_in tails test + cond (test c.tail) c.count 0
tails-push tails c test = sum_by_push (λ (x : CountedTail). cond {A = ℕ} (test x.tail) x.count 0) tails c

nought : (b : Bool) (n : ℕ) → n ≡ 0 → cond b n 0 ≡ 0
nought true n none = none
nought false n none = refl

pub spare-uncounted : (bookies : Bookies) (tails : List CountedTail) (c : CountedTail) (least : Option ℕ) → c.count ≡ 0
    → AreLeastSpare (count_tails_in tails) bookies least → AreLeastSpare (count_tails_in (tails ++ c ∷ [])) bookies least
spare-uncounted bookies tails c None none are =
    omega (arith, tails-push tails c (λ tail. true), are, none)
spare-uncounted bookies tails c (Some k) none are = record {
  none_less =
      let test : Tail → Bool = λ tail. list_any (λ entry. nat_lt (spare bookies tail entry) k) (range 0 tail.size) in
      omega (arith, tails-push tails c test, are.none_less, nought (test c.tail) c.count none);
  some_has =
      let test : Tail → Bool = λ tail. list_any (λ entry. spare bookies tail entry == k) (range 0 tail.size) in
      omega (arith, tails-push tails c test, are.some_has, nought (test c.tail) c.count none);
}

none-counted : (tails : List CountedTail) (test : Tail → Bool) → count_tails_in tails (λ tail. true) ≡ 0 → count_tails_in tails test ≡ 0
none-counted tails test none =
    let within : count_tails_in tails test ≤ count_tails_in tails (λ tail. true) =
    sum_by-le-sum_by (λ (x : CountedTail). cond {A = ℕ} (test x.tail) x.count 0) (λ (x : CountedTail). x.count) tails
    (λ x. cond_mono (test x.tail) true x.count (λ _. refl)) in
    omega (arith, within, none)

below : (m n k : ℕ) → n ≤ k → nat_lt m n ≡ true → nat_lt m k ≡ true
below m n k within is = grind (arith, nat_tests)

wide : (a b more most : Bool) → (a ≡ true → b ≡ true) → (more ≡ true → most ≡ true) → (a || more) ≡ true → (b || most) ≡ true
wide true b more most first rest is = ap (λ t. t || most) (first refl)
wide false true more most first rest is = refl
wide false false more most first rest is = rest is

fewer : (bookies : Bookies) (tail : Tail) (n k : ℕ) → n ≤ k → (entries : List ℕ)
    → list_any (λ entry. nat_lt (spare bookies tail entry) n) entries ≡ true
    → list_any (λ entry. nat_lt (spare bookies tail entry) k) entries ≡ true
fewer bookies tail n k within [] is = is
fewer bookies tail n k within (e ∷ entries) is =
    wide (nat_lt (spare bookies tail e) n) (nat_lt (spare bookies tail e) k)
    (list_any (λ entry. nat_lt (spare bookies tail entry) n) entries) (list_any (λ entry. nat_lt (spare bookies tail entry) k) entries)
    (below (spare bookies tail e) n k within) (fewer bookies tail n k within entries) is

pub spare-counted : (bookies : Bookies) (tails : List CountedTail) (c : CountedTail) (least : Option ℕ) (n : ℕ) → 0 < c.count
    → IsLeastOf (spare bookies c.tail) c.tail.size n
    → AreLeastSpare (count_tails_in tails) bookies least
    → IsLeastSpare (count_tails_in (tails ++ c ∷ [])) bookies (least_of least n)
spare-counted bookies tails c None n counts l are = record {
  none_less =
      let test : Tail → Bool = λ tail. list_any (λ entry. nat_lt (spare bookies tail entry) n) (range 0 tail.size) in
      omega (
        arith,
        tails-push tails c test,
        none-counted tails test are,
        ap (λ (b : Bool). cond {A = ℕ} b c.count 0) (none-less bookies c.tail n n l (omega arith)),
      );
  some_has =
      let test : Tail → Bool = λ tail. list_any (λ entry. spare bookies tail entry == n) (range 0 tail.size) in
      omega (
        arith,
        tails-push tails c test,
        ap (λ (b : Bool). cond {A = ℕ} b c.count 0) (some-has bookies c.tail n l),
        counts,
      );
}
spare-counted bookies tails c (Some k) n counts l are =
    elim (cases_lt k n) [
      | inl before ↦
          let at : min k n ≡ k = omega (arith, before) in
          subst (λ (m : ℕ). IsLeastSpare (count_tails_in (tails ++ c ∷ [])) bookies m) (sym at) (record {
            none_less =
                let test : Tail → Bool = λ tail. list_any (λ entry. nat_lt (spare bookies tail entry) k) (range 0 tail.size) in
                omega (
                  arith,
                  tails-push tails c test,
                  are.none_less,
                  ap (λ (b : Bool). cond {A = ℕ} b c.count 0) (none-less bookies c.tail n k l (omega (arith, before))),
                );
            some_has =
                let test : Tail → Bool = λ tail. list_any (λ entry. spare bookies tail entry == k) (range 0 tail.size) in
                omega (arith, tails-push tails c test, are.some_has);
          })
      | inr past ↦
          let at : min k n ≡ n = omega (arith, past) in
          subst (λ (m : ℕ). IsLeastSpare (count_tails_in (tails ++ c ∷ [])) bookies m) (sym at) (record {
            none_less =
                let test : Tail → Bool = λ tail. list_any (λ entry. nat_lt (spare bookies tail entry) n) (range 0 tail.size) in
                let wider : Tail → Bool = λ tail. list_any (λ entry. nat_lt (spare bookies tail entry) k) (range 0 tail.size) in
                let within : count_tails_in tails test ≤ count_tails_in tails wider =
                sum_by-le-sum_by (λ (x : CountedTail). cond {A = ℕ} (test x.tail) x.count 0)
                (λ (x : CountedTail). cond {A = ℕ} (wider x.tail) x.count 0) tails
                (λ x. cond_mono (test x.tail) (wider x.tail) x.count (fewer bookies x.tail n k past (range 0 x.tail.size))) in
                omega (
                  arith,
                  tails-push tails c test,
                  within,
                  are.none_less,
                  ap (λ (b : Bool). cond {A = ℕ} b c.count 0) (none-less bookies c.tail n n l (omega arith)),
                );
            some_has =
                let test : Tail → Bool = λ tail. list_any (λ entry. spare bookies tail entry == n) (range 0 tail.size) in
                omega (
                  arith,
                  tails-push tails c test,
                  ap (λ (b : Bool). cond {A = ℕ} b c.count 0) (some-has bookies c.tail n l),
                  counts,
                );
          })
    ]
