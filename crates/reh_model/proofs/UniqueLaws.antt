-- Two clusters have one difference: records that are it are equal.
use Rattle.std.proofs.Common.{◌≡◌, ◌≢◌, ◌<◌, ℕ, true, false, List, [], ◌∷◌, length, map, refl, sym, ap, subst, ◌∙◌, arith, inl, inr, nat_lt}
use Rattle.std.specs.Prelude.{All, ◌⊎◌}
use Rattle.std.proofs.lemmas.Bool.Decides.{nat_tests}
use Rattle.std.proofs.lemmas.List.Elements.{All-cons, All-head, All-tail}
use Rattle.reh_model.specs.Cluster.{Parts, Cluster}
use Rattle.reh_model.specs.Places.{Change, Place, at_word, at_scalar, place_of, order_of, IsLess, IsBefore, AreRising, put, put_all, IsPlaced, SameAt, IsDelta}
use Rattle.reh_model.proofs.PlaceLaws.{IsBefore-different, IsPlaced-put, order_of-same, same_change, SameAt-refl, SameAt-sym, SameAt-trans, SameAt-put}
use Rattle.reh_model.proofs.ExchangeLaws.{beside_rest, SameAt-put_all}

-- Places

less-trans : (ls ms ns : List ℕ) → IsLess ls ms → IsLess ms ns → IsLess ls ns
less-trans [] ms ns h k = absurd h
less-trans (l ∷ ls) [] ns h k = absurd h
less-trans (l ∷ ls) (m ∷ ms) [] h k = absurd k
less-trans (l ∷ ls) (m ∷ ms) (n ∷ ns) h k = elim h [
  | inl first ↦
      elim k [ inl second ↦ inl (omega (arith, first, second)) | inr later ↦ inl (omega (arith, first, later.0)) ]
  | inr first ↦ elim k [
    | inl second ↦ inl (omega (arith, first.0, second))
    | inr later ↦ inr (first.0 ∙ later.0, less-trans ls ms ns first.1 later.1)
  ]
]

-- of two lists of one length one is less, or they are equal
either_less : (ms ns : List ℕ) → length ms ≡ length ns → IsLess ms ns ⊎ (IsLess ns ms ⊎ (ms ≡ ns))
either_less [] [] h = inr (inr refl)
either_less [] (n ∷ ns) h = absurd (omega (arith, h))
either_less (m ∷ ms) [] h = absurd (omega (arith, h))
either_less (m ∷ ms) (n ∷ ns) h =
    let goal : Type 0 = IsLess (m ∷ ms) (n ∷ ns) ⊎ (IsLess (n ∷ ns) (m ∷ ms) ⊎ (m ∷ ms ≡ n ∷ ns)) in
    elim (nat_lt m n) as (λ b. nat_lt m n ≡ b → goal) [
      | true ↦ λ is. let less : m < n = grind (arith, nat_tests, is) in inl (inl less)
      | false ↦ λ no. elim (nat_lt n m) as (λ b. nat_lt n m ≡ b → goal) [
        | true ↦ λ is. let more : n < m = grind (arith, nat_tests, is) in inr (inl (inl more))
        | false ↦ λ nor.
            let same : m ≡ n = grind (arith, nat_tests, no, nor) in
            elim (either_less ms ns (omega (arith, h))) [
              | inl less ↦ inl (inr (same, less))
              | inr other ↦ elim other [
                | inl more ↦ inr (inl (inr (sym same, more)))
                | inr all ↦ inr (inr (λ i. same i ∷ all i))
              ]
            ]
      ] refl
    ] refl

-- one of two places is before the other, or they are one
either_before : (p q : Place) → IsBefore p q ⊎ (IsBefore q p ⊎ (p ≡ q))
either_before p q = told p q where
  of_length : (p q : Place) → length (order_of p) ≡ length (order_of q) → IsBefore p q ⊎ (IsBefore q p ⊎ (p ≡ q))
  of_length p q h = elim (either_less (order_of p) (order_of q) h) [
    | inl less ↦ inl less
    | inr other ↦ elim other [ inl more ↦ inr (inl more) | inr same ↦ inr (inr (order_of-same p q same)) ]
  ]

  told : (p q : Place) → IsBefore p q ⊎ (IsBefore q p ⊎ (p ≡ q))
  told (at_word b l k) (at_word c m n) = of_length (at_word b l k) (at_word c m n) refl
  told (at_word b l k) (at_scalar n) = inl (inl (omega arith))
  told (at_word b l k) q = inr (inl (inl (omega arith)))
  told (at_scalar n) (at_word b l k) = inr (inl (inl (omega arith)))
  told p (at_word b l k) = inl (inl (omega arith))
  told p q = of_length p q refl

-- Records

-- the record changes p to q, and has no change for a place in which they don't differ
record Makes (n : ℕ) (p q : Parts) (cs : List Change) : Type 0 where
  rising : AreRising (map place_of cs)
  placed : All (IsPlaced n p) cs
  makes : put_all p cs ≡ q
  differ : All (λ place. ¬ SameAt p q place) (map place_of cs)

-- after the first change so do the others
makes_rest : (n : ℕ) (p q : Parts) (c : Change) (cs : List Change) → Makes n p q (c ∷ cs) → Makes n (put p c) q cs
makes_rest n p q c cs h = record {
  rising = h.rising.1;
  placed = λ k d within. IsPlaced-put n p c _ (All-tail (IsPlaced n p) c cs h.placed k d within);
  makes = h.makes;
  differ = λ k d within same.
      All-tail (λ place. ¬ SameAt p q place) (place_of c) (map place_of cs) h.differ k d within
      (SameAt-trans p (put p c) q _ (SameAt-put p c _ (beside_rest c cs h.rising k d within)) same);
}

-- and the place of the first change stays as it is
stays : (n : ℕ) (p q : Parts) (c : Change) (cs : List Change) → Makes n p q (c ∷ cs) → SameAt (put p c) q (place_of c)
stays n p q c cs h =
    subst (λ (v : Parts). SameAt (put p c) v (place_of c)) h.makes
    (SameAt-put_all (put p c) cs (place_of c) (beside_rest c cs h.rising))

-- a place before those of the record is the same
same_before : (n : ℕ) (p q : Parts) (d : Change) (ds : List Change) (place : Place) → Makes n p q (d ∷ ds)
    → IsBefore place (place_of d) → SameAt p q place
same_before n p q d ds place h before =
    subst (λ (v : Parts). SameAt p v place) h.makes (SameAt-put_all p (d ∷ ds) place
    (All-cons (λ other. place ≢ other) (place_of d) (map place_of ds) (IsBefore-different place (place_of d) before)
    (λ k e within. IsBefore-different place _
    (less-trans (order_of place) (order_of (place_of d)) _ before (h.rising.0 k e within)))))

one_record : (n : ℕ) (p q : Parts) (cs ds : List Change) → Makes n p q cs → Makes n p q ds → cs ≡ ds
one_record n p q [] [] g h = refl
one_record n p q [] (d ∷ ds) g h =
    absurd (All-head (λ place. ¬ SameAt p q place) (place_of d) (map place_of ds) h.differ
    (subst (λ (v : Parts). SameAt p v (place_of d)) g.makes (SameAt-refl p (place_of d))))
one_record n p q (c ∷ cs) [] g h =
    absurd (All-head (λ place. ¬ SameAt p q place) (place_of c) (map place_of cs) g.differ
    (subst (λ (v : Parts). SameAt p v (place_of c)) h.makes (SameAt-refl p (place_of c))))
one_record n p q (c ∷ cs) (d ∷ ds) g h = elim (either_before (place_of c) (place_of d)) [
  | inl before ↦
      absurd (All-head (λ place. ¬ SameAt p q place) (place_of c) (map place_of cs) g.differ
      (same_before n p q d ds (place_of c) h before))
  | inr other ↦ elim other [
    | inl before ↦
        absurd (All-head (λ place. ¬ SameAt p q place) (place_of d) (map place_of ds) h.differ
        (same_before n p q c cs (place_of d) g before))
    | inr at ↦
        let there : SameAt (put p d) q (place_of c) =
        subst (λ (place : Place). SameAt (put p d) q place) (sym at) (stays n p q d ds h) in
        let first : c ≡ d =
        same_change n p c d at (All-head (IsPlaced n p) c cs g.placed) (All-head (IsPlaced n p) d ds h.placed)
        (SameAt-trans (put p c) q (put p d) (place_of c) (stays n p q c cs g)
        (SameAt-sym (put p d) q (place_of c) there)) in
        let rest : cs ≡ ds =
        one_record n (put p c) q cs ds (makes_rest n p q c cs g)
        (subst (λ (e : Change). Makes n (put p e) q ds) (sym first) (makes_rest n p q d ds h)) in
        λ i. first i ∷ rest i
  ]
]

makes_delta : (s t : Cluster) (cs : List Change) → IsDelta s t cs → Makes (length s.names) s.parts t.parts cs
makes_delta s t cs h = record {
  rising = h.rising;
  placed = h.fits.there;
  makes = ap (λ (u : Cluster). u.parts) h.makes;
  differ = h.differ;
}

pub IsDelta-unique : (s t : Cluster) (cs ds : List Change) → IsDelta s t cs → IsDelta s t ds → cs ≡ ds
IsDelta-unique s t cs ds g h =
    one_record (length s.names) s.parts t.parts cs ds (makes_delta s t cs g) (makes_delta s t ds h)
