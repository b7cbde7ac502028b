-- Rising ranges.
use Rattle.std.proofs.Common.{◌≡◌, ◌∙◌, ◌+◌, ◌-◌, ◌<◌, ◌≤◌, ◌||◌, ◌&&◌, ℕ, zero, suc, Bool, true, false, List, [], ◌∷◌, length, get_or, nat_le, take, ◌⊎◌, refl, ap, subst, below_more, arith, inl, inr, sym}
use Rattle.std.specs.List.{list_any}
use Rattle.std.proofs.lemmas.List.{get_or_default}
use Rattle.std.proofs.lemmas.List.Folds.{list_any_more}
use Rattle.std.proofs.lemmas.Bool.{cases_lt}
use Rattle.std.proofs.lemmas.Bool.Decides.{nat_tests}
use Rattle.reh_census.specs.declared.ledgers.Range.{Range}
use Rattle.reh_census.specs.Ledgers.{is_within}
use Rattle.reh_tally.specs.Stretches.{ArePassed, AreRising, IsEnd, IsEndOf}

none_of : (p : Range → Bool) (ranges : List Range) → ((k : ℕ) (d : Range) → k < length ranges → p (get_or ranges k d) ≡ false)
    → list_any p ranges ≡ false
none_of p [] fails = refl
none_of p (r ∷ ranges) fails =
    λ i. fails 0 r (omega arith) i || none_of p ranges (λ k d within. fails (suc k) d (omega arith)) i

or_false : (b : Bool) → (b || false) ≡ b
or_false true = refl
or_false false = refl

-- where all others fail, one range decides
one_of : (p : Range → Bool) (ranges : List Range) (n : ℕ) (e : Range) → n < length ranges
    → ((k : ℕ) (d : Range) → k < n → p (get_or ranges k d) ≡ false)
    → ((k : ℕ) (d : Range) → n < k → k < length ranges → p (get_or ranges k d) ≡ false)
    → list_any p ranges ≡ p (get_or ranges n e)
one_of p [] n e within before behind = absurd (omega (arith, within))
one_of p (r ∷ ranges) zero e within before behind =
    ap (λ b. p r || b) (none_of p ranges (λ k d inside. behind (suc k) d (omega arith) (omega arith))) ∙ or_false (p r)
one_of p (r ∷ ranges) (suc n) e within before behind =
    (λ i. before 0 r (omega arith) i
    || one_of p ranges n e (omega arith) (λ k d below. before (suc k) d (omega arith)) (λ k d above inside. behind (suc k) d (omega arith) (omega arith)) i)

outside_after : (entry : ℕ) (r : Range) → r.last < entry → is_within entry r ≡ false
outside_after entry r ended = after r.first r.last entry ended where
  after : (first last entry : ℕ) → last < entry → (nat_le first entry && nat_le entry last) ≡ false
  after first last entry ended = grind (arith, nat_tests)

outside_before : (entry : ℕ) (r : Range) → entry < r.first → is_within entry r ≡ false
outside_before entry r early = before r.first r.last entry early where
  before : (first last entry : ℕ) → entry < first → (nat_le first entry && nat_le entry last) ≡ false
  before first last entry early = grind (arith, nat_tests)

-- all ranges end before
pub all-passed : (ranges : List Range) (passed at entry : ℕ) → length ranges ≤ passed → ArePassed ranges passed at → at ≤ entry
    → list_any (is_within entry) ranges ≡ false
all-passed ranges passed at entry all ended from =
    none_of (is_within entry) ranges (λ k d within.
    outside_after entry (get_or ranges k d) (omega (arith, ended k d (omega arith))))

-- of rising ranges the first that doesn't end before decides, up to its end
pub first-decides : (ranges : List Range) (n at entry : ℕ) (e : Range) → AreRising ranges → n < length ranges → ArePassed ranges n at
    → at ≤ entry → entry ≤ (get_or ranges n e).last
    → list_any (is_within entry) ranges ≡ is_within entry (get_or ranges n e)
first-decides ranges n at entry e rising within ended from upto =
    one_of (is_within entry) ranges n e within
    (λ k d below. outside_after entry (get_or ranges k d) (omega (arith, ended k d below)))
    (λ k d above inside. outside_before entry (get_or ranges k d)
    (omega (arith, rising.order n k d above inside, upto, ap (λ (r : Range). r.last) (get_or_default ranges n d e within))))

pub begun : (first last at : ℕ) → at ≤ last → (nat_le first at && nat_le at last) ≡ nat_le first at
begun first last at upto = grind (arith, nat_tests)

-- one range more
pub some-more : (ranges : List Range) (i : ℕ) (z : Range) → i < length ranges
    → ((k : ℕ) (d : Range) → k < i → (get_or ranges k d).first ≤ (get_or ranges k d).last)
    → (get_or ranges i z).first ≤ (get_or ranges i z).last
    → (k : ℕ) (d : Range) → k < i + 1 → (get_or ranges k d).first ≤ (get_or ranges k d).last
some-more ranges i z within below here k d under =
    below_more (λ k. (d : Range) → (get_or ranges k d).first ≤ (get_or ranges k d).last) i (λ k before d. below k d before)
    (λ d. subst (λ (r : Range). r.first ≤ r.last) (get_or_default ranges i z d within) here) k under d

-- a range before the last one ends before the next one begins
behind : (ranges : List Range) (i k : ℕ) (z d : Range) → i < length ranges → k < i
    → ((k : ℕ) (d : Range) → k < i → (get_or ranges k d).first ≤ (get_or ranges k d).last)
    → ((k n : ℕ) (d : Range) → k < n → n < i → (get_or ranges k d).last < (get_or ranges n d).first)
    → (get_or ranges (i - 1) z).last < (get_or ranges i z).first
    → (get_or ranges k d).last < (get_or ranges i d).first
behind ranges i k z d within before some below here =
    let first : (get_or ranges i z).first ≡ (get_or ranges i d).first = ap (λ (r : Range). r.first) (get_or_default ranges i z d within) in
    let last : (get_or ranges (i - 1) z).last ≡ (get_or ranges (i - 1) d).last =
    ap (λ (r : Range). r.last) (get_or_default ranges (i - 1) z d (omega (arith, within, before))) in
    elim (cases_lt k (i - 1)) [
      | inl early ↦
          omega (arith, here, first, last, below k (i - 1) d early (omega (arith, before)), some (i - 1) d (omega (arith, before)))
      | inr late ↦
          let same : k ≡ i - 1 = omega (arith, late, before) in
          omega (arith, here, first, last, ap (λ k. (get_or ranges k d).last) same)
    ]

pub order-more : (ranges : List Range) (i : ℕ) (z : Range) → i < length ranges
    → ((k : ℕ) (d : Range) → k < i → (get_or ranges k d).first ≤ (get_or ranges k d).last)
    → ((k n : ℕ) (d : Range) → k < n → n < i → (get_or ranges k d).last < (get_or ranges n d).first)
    → (0 < i → (get_or ranges (i - 1) z).last < (get_or ranges i z).first)
    → (k n : ℕ) (d : Range) → k < n → n < i + 1 → (get_or ranges k d).last < (get_or ranges n d).first
order-more ranges i z within some below here k n d before under =
    below_more (λ n. (k : ℕ) (d : Range) → k < n → (get_or ranges k d).last < (get_or ranges n d).first) i
    (λ n early k d before. below k n d before early)
    (λ k d before. behind ranges i k z d within before some below (here (omega (arith, before)))) n under k d before

-- ranges below one that ends before end before too
pub ended-below : (ranges : List Range) (n at : ℕ) (z : Range) → AreRising ranges → n < length ranges → (get_or ranges n z).last < at
    → ArePassed ranges (n + 1) at
ended-below ranges n at z rising within ended k d under =
    below_more (λ k. (d : Range) → (get_or ranges k d).last < at) n
    (λ k before d. omega (arith, rising.order k n d before within, rising.some n d within, subst (λ (r : Range). r.last < at) (get_or_default ranges n z d within) ended))
    (λ d. subst (λ (r : Range). r.last < at) (get_or_default ranges n z d within) ended) k under d

-- an end by one range more
pub end-more : (ranges : List Range) (i : ℕ) (z : Range) (stop next result : ℕ) → i < length ranges → IsEnd ranges stop next
    → (result ≡ next) ⊎ IsEndOf result (get_or ranges i z) → IsEnd ranges stop result
end-more ranges i z stop next result within was (inl same) = subst (λ n. IsEnd ranges stop n) (sym same) was
end-more ranges i z stop next result within was (inr here) =
    inr (i, get_or ranges i z, within, get_or_default ranges i (get_or ranges i z) z within, here)

-- what is told by one range more
pub told-more : (ranges : List Range) (i entry at : ℕ) (z : Range) → i < length ranges
    → list_any (is_within entry) (take i ranges) ≡ list_any (is_within at) (take i ranges)
    → is_within entry (get_or ranges i z) ≡ is_within at (get_or ranges i z)
    → list_any (is_within entry) (take (i + 1) ranges) ≡ list_any (is_within at) (take (i + 1) ranges)
told-more ranges i entry at z within was here =
    list_any_more (is_within entry) ranges i z within
    ∙ (λ j. was j || here j)
    ∙ sym (list_any_more (is_within at) ranges i z within)
