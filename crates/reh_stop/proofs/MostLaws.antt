-- The most known copies of an entry, by what a census counts.
use Rattle.std.proofs.Common.{◌≡◌, ◌<◌, ◌≤◌, ◌∷◌, [], cond, ℕ, Bool, true, false, List, length, subst, refl, inl, inr, arith}
use Rattle.std.specs.Prelude.{◌==◌, fold, if◌then◌else◌, max, nat_lt, sum_by}
use Rattle.std.proofs.Math.Nat.{sub-add-eq-max}
use Rattle.std.proofs.lemmas.Bool.{cases_lt}
use Rattle.std.proofs.lemmas.Bool.Decides.{nat_tests}
use Rattle.std.proofs.lemmas.List.Sums.{sum_by-cons}
use Rattle.reh_answer.specs.Facts.{copies_in, most_copies}
use Rattle.reh_census.specs.declared.classes.Counted.{Counted}
use Rattle.reh_census.specs.Counting.{Census, Counting, IsCensus, count_in, counting_in, counting_of}
use Rattle.reh_census.specs.Ledgers.{Ledger}
use Rattle.reh_census.proofs.CountingLaws.{same-counting}
use Rattle.reh_stop.specs.Stops.{AreMost}

-- One class

none_over : (has over : Bool) (count known most : ℕ) → nat_lt 0 count ≡ has → nat_lt most known ≡ over
    → (if has then known else 0) ≤ most → cond over count 0 ≡ 0
none_over has false count known most some is few = refl
none_over true true count known most some is few = grind (arith, nat_tests)
none_over false true count known most some is few = grind (arith, nat_tests)

reached : (has same : Bool) (count known before most : ℕ) → nat_lt 0 count ≡ has → (known == most) ≡ same → before < most
    → max before (if has then known else 0) ≡ most → 0 < cond same count 0
reached true true count known before most some is more greatest = grind (arith, nat_tests)
reached true false count known before most some is more greatest =
    let same : known ≡ most = omega (arith, more, greatest, sub-add-eq-max before known) in grind (arith, nat_tests)
reached false same count known before most some is more greatest =
    absurd (omega (arith, more, greatest, sub-add-eq-max before 0))

-- All classes

abbrev with_more : ℕ → Counted → ℕ
with_more most counted = max most (copies_in counted)

more : (entries : List Counted) (before : ℕ) → before ≤ fold with_more before entries
more [] before = omega arith
more (c ∷ entries) before =
    let next : ℕ = max before (copies_in c) in
    let rest : next ≤ fold with_more next entries = more entries next in
    let all : before ≤ fold with_more next entries = omega (arith, rest, sub-add-eq-max before (copies_in c)) in all

none_more : (entries : List Counted) (before : ℕ)
    → count_in entries (λ class. nat_lt (fold with_more before entries) (length class.known)) ≡ 0
none_more [] before = refl
none_more (c ∷ entries) before =
    let next : ℕ = max before (copies_in c) in
    let most : ℕ = fold with_more next entries in
    let over : Counted → ℕ = λ one. cond (nat_lt most (length one.class.known)) one.count 0 in
    let up : next ≤ most = more entries next in
    let few : copies_in c ≤ most = omega (arith, up, sub-add-eq-max before (copies_in c)) in
    let here : over c ≡ 0 = none_over (nat_lt 0 c.count) (nat_lt most (length c.class.known)) c.count (length c.class.known) most refl refl few in
    let rest : sum_by over entries ≡ 0 = none_more entries next in
    let all : sum_by over (c ∷ entries) ≡ 0 = omega (arith, sum_by-cons over c entries, here, rest) in all

some_has : (entries : List Counted) (before : ℕ) → before < fold with_more before entries
    → 0 < count_in entries (λ class. length class.known == fold with_more before entries)
some_has [] before more = absurd (omega (arith, more))
some_has (c ∷ entries) before later =
    let next : ℕ = max before (copies_in c) in
    let most : ℕ = fold with_more next entries in
    let hit : Counted → ℕ = λ one. cond (length one.class.known == most) one.count 0 in
    let up : next ≤ most = more entries next in
    let all : 0 < sum_by hit (c ∷ entries) =
    elim (cases_lt next most) [
      | inl still ↦
          let rest : 0 < sum_by hit entries = some_has entries next still in omega (arith, sum_by-cons hit c entries, rest)
      | inr last ↦
          let is : next ≡ most = omega (arith, last, up) in
          let here : 0 < hit c =
          reached (nat_lt 0 c.count) (length c.class.known == most) c.count (length c.class.known) before most refl refl later is in
          omega (arith, sum_by-cons hit c entries, here)
    ] in all

-- by a census, and so by the ledgers that it counts
in_census : (census : Census) → AreMost (counting_in census) (most_copies census.entries)
in_census census = record {
  none_more = none_more census.entries 0;
  some_has = some_has census.entries 0;
}

pub in_ledgers : (census : Census) (holders : List ℕ) (ledgers : List Ledger) → IsCensus census holders ledgers
    → AreMost (counting_of holders ledgers) (most_copies census.entries)
in_ledgers census holders ledgers counts =
    subst (λ (counting : Counting). AreMost counting (most_copies census.entries)) (same-counting census holders ledgers counts)
    (in_census census)
