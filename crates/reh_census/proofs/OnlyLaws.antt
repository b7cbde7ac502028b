-- Lines in order that count alike are the same lines.
use Rattle.std.proofs.Common.{◌≡◌, ◌∙◌, ◌+◌, ◌≤◌, cond, ℕ, Bool, true, false, All, List, [], ◌∷◌, get_or, sum_by, refl, ap, sym, suc, arith}
use Rattle.std.specs.Cmp.{IsTotalOrder}
use Rattle.std.specs.Ordering.{is_eq, ordering_reverse}
use Rattle.std.specs.declared.cmp.Ordering.{Ordering}
use Rattle.std.specs.declared.cmp.Ordering.TheVariants.{Less, Equal, Greater}
use Rattle.std.proofs.lemmas.Cmp.{tied_itself}
use Rattle.std.proofs.lemmas.List.Elements.{All-head, All-tail}
use Rattle.std.proofs.lemmas.List.Sums.{sum_by-cons}
use Rattle.reh_census.specs.declared.censuses.CountedEnsemble.{CountedEnsemble}
use Rattle.reh_census.specs.declared.censuses.CountedTail.{CountedTail}
use Rattle.reh_census.specs.declared.classes.Counted.{Counted}
use Rattle.reh_census.specs.Counting.{Census, IsCensus, count_ensembles_in, count_in, count_tails_in}
use Rattle.reh_census.specs.Ledgers.{Ledger}
use Rattle.reh_census.specs.Order.{InOrder, IsInOrder, class_cmp, names_cmp, tail_cmp}
use Rattle.reh_census.proofs.OrderLaws.{class_exact, class_total, names_exact, names_total, tail_exact, tail_total}

module _ {X K : Type 0} (kind : X → K) (count : X → ℕ) (cmp : K → K → Ordering) (total : IsTotalOrder cmp) where
  abbrev tally : List X → (K → Bool) → ℕ
  tally xs test = sum_by (λ x. cond (test (kind x)) (count x) 0) xs

  tally-cons : (test : K → Bool) (x : X) (xs : List X) → tally (x ∷ xs) test ≡ cond (test (kind x)) (count x) 0 + tally xs test
  tally-cons test x xs = sum_by-cons (λ y. cond (test (kind y)) (count y) 0) x xs

  -- the line comes before each of these
  abbrev Before : X → List X → Type 0
  Before x [] = Unit {0}
  Before x (y ∷ ys) = (cmp (kind x) (kind y) ≡ Less) × Before x ys

  Before-trans : (x y : X) (ys : List X) → cmp (kind x) (kind y) ≡ Less → Before y ys → Before x ys
  Before-trans x y [] less before = tt
  Before-trans x y (z ∷ zs) less before =
      (total.trans (kind x) (kind y) (kind z) less before.0, Before-trans x y zs less before.1)

  later : (x : X) (xs : List X) (k : ℕ) (d : X) → get_or (x ∷ xs) (k + 1) d ≡ get_or xs k d
  later x xs k d = ap (λ (n : ℕ). get_or (x ∷ xs) n d) (let next : k + 1 ≡ suc k = omega arith in next)

  abbrev Ordered : List X → Type 0
  Ordered xs = InOrder (λ one next. cmp (kind one) (kind next)) xs

  Ordered-tail : (x : X) (xs : List X) → Ordered (x ∷ xs) → Ordered xs
  Ordered-tail x xs order k d below =
      sym (λ i. cmp (kind (later x xs k d i)) (kind (later x xs (k + 1) d i))) ∙ order (k + 1) d (omega (arith, below))

  Ordered-before : (x : X) (xs : List X) → Ordered (x ∷ xs) → Before x xs
  Ordered-before x [] order = tt
  Ordered-before x (y ∷ ys) order =
      let first : cmp (kind x) (kind y) ≡ Less = order 0 x (omega arith) in
      (first, Before-trans x y ys first (Ordered-before y ys (Ordered-tail x (y ∷ ys) order)))

  abbrev is_kind : X → K → Bool
  is_kind x k = is_eq (cmp k (kind x))

  other : (x y : X) → cmp (kind x) (kind y) ≡ Less → is_kind x (kind y) ≡ false
  other x y less = ap is_eq (total.antisymm (kind y) (kind x) ∙ ap ordering_reverse less)

  none-later : (x : X) (xs : List X) → Before x xs → tally xs (is_kind x) ≡ 0
  none-later x [] before = refl
  none-later x (y ∷ ys) before =
      tally-cons (is_kind x) y ys
      ∙ ap (λ (b : Bool). cond b (count y) 0 + tally ys (is_kind x)) (other x y before.0)
      ∙ (let rest : 0 + tally ys (is_kind x) ≡ 0 = omega (arith, none-later x ys before.1) in rest)

  itself : (x : X) → is_kind x (kind x) ≡ true
  itself x = ap is_eq (tied_itself total (kind x))

  -- of its kind there are as many as the line says
  own : (x : X) (xs : List X) → Before x xs → tally (x ∷ xs) (is_kind x) ≡ count x
  own x xs before =
      tally-cons (is_kind x) x xs
      ∙ ap (λ (b : Bool). cond b (count x) 0 + tally xs (is_kind x)) (itself x)
      ∙ (let rest : count x + tally xs (is_kind x) ≡ count x = omega (arith, none-later x xs before) in rest)

  not-less : (x : X) (xs : List X) (y : X) (ys : List X) → Ordered (x ∷ xs) → Ordered (y ∷ ys) → 1 ≤ count x
      → tally (x ∷ xs) (is_kind x) ≡ tally (y ∷ ys) (is_kind x) → cmp (kind x) (kind y) ≡ Less → ⊥
  not-less x xs y ys order too some alike less =
      omega (
        arith,
        some,
        alike,
        own x xs (Ordered-before x xs order),
        none-later x (y ∷ ys) (less, Before-trans x y ys less (Ordered-before y ys too)),
      )

  not-empty : (x : X) (xs : List X) → 1 ≤ count x → tally (x ∷ xs) (λ k. true) ≡ 0 → ⊥
  not-empty x xs some none = omega (arith, some, none, tally-cons (λ k. true) x xs)

  module _ (exact : (one next : K) → cmp one next ≡ Equal → one ≡ next) (whole : (x y : X) → kind x ≡ kind y → count x ≡ count y → x ≡ y) where
    heads : (x : X) (xs : List X) (y : X) (ys : List X) → Ordered (x ∷ xs) → Ordered (y ∷ ys) → 1 ≤ count x → 1 ≤ count y
        → ((test : K → Bool) → tally (x ∷ xs) test ≡ tally (y ∷ ys) test) → (o : Ordering) → cmp (kind x) (kind y) ≡ o → x ≡ y
    heads x xs y ys order too some more alike Less is = absurd (not-less x xs y ys order too some (alike (is_kind x)) is)
    heads x xs y ys order too some more alike Greater is =
        absurd (not-less y ys x xs too order more (sym (alike (is_kind y))) (total.antisymm (kind y) (kind x) ∙ ap ordering_reverse is))
    heads x xs y ys order too some more alike Equal is =
        let same : kind x ≡ kind y = exact (kind x) (kind y) is in
        let times : count x ≡ count y =
        sym (own x xs (Ordered-before x xs order)) ∙ alike (is_kind x)
        ∙ ap (λ (k : K). tally (y ∷ ys) (λ j. is_eq (cmp j k))) same
        ∙ own y ys (Ordered-before y ys too) in
        whole x y same times

    only : (xs ys : List X) → Ordered xs → Ordered ys → All (λ x. 1 ≤ count x) xs → All (λ x. 1 ≤ count x) ys
        → ((test : K → Bool) → tally xs test ≡ tally ys test) → xs ≡ ys
    only [] [] order too some more alike = refl
    only [] (y ∷ ys) order too some more alike =
        absurd (not-empty y ys (All-head (λ x. 1 ≤ count x) y ys more) (sym (alike (λ k. true))))
    only (x ∷ xs) [] order too some more alike =
        absurd (not-empty x xs (All-head (λ x. 1 ≤ count x) x xs some) (alike (λ k. true)))
    only (x ∷ xs) (y ∷ ys) order too some more alike =
        let same : x ≡ y =
        heads x xs y ys order too (All-head (λ x. 1 ≤ count x) x xs some) (All-head (λ x. 1 ≤ count x) y ys more) alike (cmp (kind x) (kind y)) refl in
        let rest : (test : K → Bool) → tally xs test ≡ tally ys test =
        λ test. omega (
          arith,
          alike test,
          tally-cons test x xs,
          tally-cons test y ys,
          ap (λ (z : X). cond (test (kind z)) (count z) 0) same,
        ) in
        let tails : xs ≡ ys =
        only xs ys (Ordered-tail x xs order) (Ordered-tail y ys too) (All-tail (λ x. 1 ≤ count x) x xs some)
        (All-tail (λ x. 1 ≤ count x) y ys more) rest in
        λ i. same i ∷ tails i

pub only-entries : (census other : Census) → IsInOrder census → IsInOrder other
    → ((test : _) → count_in census.entries test ≡ count_in other.entries test) → census.entries ≡ other.entries
only-entries census other order too alike =
    only (λ c. c.class) (λ c. c.count) class_cmp class_total class_exact
    (λ (x y : Counted) class count i. record { class = class i; count = count i }) census.entries other.entries order.entries too.entries order.some_entries
    too.some_entries alike

pub only-tails : (census other : Census) → IsInOrder census → IsInOrder other
    → ((test : _) → count_tails_in census.tails test ≡ count_tails_in other.tails test) → census.tails ≡ other.tails
only-tails census other order too alike =
    only (λ t. t.tail) (λ t. t.count) tail_cmp tail_total tail_exact
    (λ (x y : CountedTail) tail count i. record { tail = tail i; count = count i }) census.tails other.tails order.tails too.tails order.some_ledgers
    too.some_ledgers alike

pub only-ensembles : (census other : Census) → IsInOrder census → IsInOrder other
    → ((test : _) → count_ensembles_in census.ensembles test ≡ count_ensembles_in other.ensembles test) → census.ensembles ≡ other.ensembles
only-ensembles census other order too alike =
    only (λ e. e.members) (λ e. e.count) names_cmp names_total names_exact
    (λ (x y : CountedEnsemble) members count i. record { members = members i; count = count i }) census.ensembles other.ensembles order.ensembles
    too.ensembles order.some_fragments too.some_fragments alike

pub only-census : (census other : Census) (holders : List ℕ) (ledgers : List Ledger) → IsCensus census holders ledgers → IsInOrder census
    → IsCensus other holders ledgers → IsInOrder other → census.judged ≡ other.judged → census ≡ other
only-census census other holders ledgers counts order too other-order judged =
    let entries : census.entries ≡ other.entries =
    only-entries census other order other-order (λ test. counts.entries test ∙ sym (too.entries test)) in
    let tails : census.tails ≡ other.tails =
    only-tails census other order other-order (λ test. counts.tails test ∙ sym (too.tails test)) in
    let ensembles : census.ensembles ≡ other.ensembles =
    only-ensembles census other order other-order (λ test. counts.ensembles test ∙ sym (too.ensembles test)) in
    λ i. record { entries = entries i; tails = tails i; ensembles = ensembles i; judged = judged i }
