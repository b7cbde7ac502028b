-- The worst of some, and of one more.
use Rattle.std.proofs.Common.{◌≡◌, ◌∙◌, ◌+◌, ◌<◌, ◌≤◌, ◌++◌, ◌∷◌, [], ◌⊎◌, Bool, true, false, List, ap, sym, subst, refl, inl, inr, length, get_or, take, drop, map, leb, arith, append_assoc, append-nil, length-append}
use Rattle.std.specs.Prelude.{All, Contains, IsPermutation}
use Rattle.std.specs.Cmp.{IsStrictWeakOrder}
use Rattle.std.specs.Ordering.{is_lt, nat_cmp, ordering_then}
use Rattle.std.specs.declared.cmp.Ordering.{Ordering}
use Rattle.std.specs.List.Sorted.{IsSortedBy}
use Rattle.std.proofs.lemmas.Bool.Decides.{nat_tests}
use Rattle.std.proofs.lemmas.Cmp.{back_total, nat_cmp_total, on_total, then_total}
use Rattle.std.proofs.lemmas.List.{drop_all, get_or-append-add, get_or-drop, get_or-map, get_or-take, get_or_append_left, length-drop, length-map, length-take, length-take-le, map-append, take-append-drop}
use Rattle.std.proofs.lemmas.List.Elements.{All-contains_itself, All-from_get_or, All-push, Contains-push}
use Rattle.std.proofs.lemmas.List.Sorted.{All-permutation, IsPermutation-append_comm, IsPermutation-append_left, IsPermutation-append_right, IsPermutation-map, IsPermutation-refl, IsPermutation-trans, length_permutation, ranks_by, sorted_far}
use Rattle.reh_against.specs.declared.found.Found.{Found}
use Rattle.reh_against.specs.declared.kept.Kept.{Kept}
use Rattle.reh_against.specs.Weighed.{found_of, kept_before}
use Rattle.reh_against.specs.Worst.{AreWorst, comes_before}

-- The order

abbrev pub found_cmp : Found → Found → Ordering
found_cmp a b =
    ordering_then (nat_cmp b.weight.0 a.weight.0) (ordering_then (nat_cmp a.ledger b.ledger) (nat_cmp a.place b.place))

pub same-order : (a b : Found) → is_lt (found_cmp a b) ≡ comes_before a b
same-order a b = grind (arith, nat_tests)

pub before-orders : IsStrictWeakOrder comes_before
before-orders =
    subst (λ (lt : Found → Found → Bool). IsStrictWeakOrder lt) (λ i a b. same-order a b i)
    (ranks_by
    (then_total (on_total (λ (f : Found). f.weight.0) (back_total nat_cmp_total))
    (then_total (on_total (λ (f : Found). f.ledger) nat_cmp_total) (on_total (λ (f : Found). f.place) nat_cmp_total)))
    (λ (f : Found). f))

-- Lists in an order

module _ {X : Type 0} (lt : X → X → Bool) where
  pub sorted-front : (xs ys : List X) → IsSortedBy lt (xs ++ ys) → IsSortedBy lt xs
  sorted-front xs ys up = λ k d low within.
      let after : k + 1 < length xs = within in
      let before : k < length xs = omega arith in
      subst (λ (y : X). lt y (get_or xs k d) ≡ false) (get_or_append_left xs ys d (k + 1) after)
      (subst (λ (x : X). lt (get_or (xs ++ ys) (k + 1) d) x ≡ false) (get_or_append_left xs ys d k before)
      (up k d low (omega (arith, length-append xs ys))))

  -- the last one comes before none
  pub last-after : IsStrictWeakOrder lt → (xs : List X) (last : X) → IsSortedBy lt (xs ++ last ∷ [])
      → All (λ one. lt last one ≡ false) (xs ++ last ∷ [])
  last-after order xs last up = λ k d within.
      let long : length (xs ++ last ∷ []) ≡ length xs + 1 = length-append xs (last ∷ []) in
      subst (λ (x : X). lt x (get_or (xs ++ last ∷ []) k d) ≡ false) (get_or-append-add xs (last ∷ []) 0 d)
      (sorted_far lt order (xs ++ last ∷ []) up k (length xs + 0) d (omega arith) (omega arith))

pub sorted-map : {X Y : Type 0} (f : Y → X) (lt : X → X → Bool) (ys : List Y) → IsSortedBy (λ a b. lt (f a) (f b)) ys
    → IsSortedBy lt (map f ys)
sorted-map f lt [] up = λ k d low within. absurd (omega (arith, within))
sorted-map {X} f lt (y ∷ ys) up = λ k d low within.
    let long : length (map f (y ∷ ys)) ≡ length (y ∷ ys) = length-map (y ∷ ys) f in
    let after : k + 1 < length (y ∷ ys) = omega (arith, long, within) in
    let before : k < length (y ∷ ys) = omega arith in
    subst (λ (a : X). lt a (get_or (map f (y ∷ ys)) k d) ≡ false) (sym (get_or-map f (y ∷ ys) (k + 1) y d after))
    (subst (λ (b : X). lt (f (get_or (y ∷ ys) (k + 1) y)) b ≡ false) (sym (get_or-map f (y ∷ ys) k y d before))
    (up k y low after))

All-front : {X : Type 0} (P : X → Type 0) (xs ys : List X) → All P (xs ++ ys) → All P xs
All-front P xs ys all = λ k d within.
    subst P (get_or_append_left xs ys d k within) (all k d (omega (arith, length-append xs ys)))

All-last : {X : Type 0} (P : X → Type 0) (xs : List X) (last : X) → All P (xs ++ last ∷ []) → P last
All-last P xs last all =
    subst P (get_or-append-add xs (last ∷ []) 0 last) (all (length xs + 0) last (omega (arith, length-append xs (last ∷ []))))

-- the one takes the other's place, which goes to the rest
exchanged : {X : Type 0} (found front others now : List X) (last x : X) → IsPermutation found ((front ++ last ∷ []) ++ others)
    → IsPermutation (front ++ x ∷ []) now → IsPermutation (found ++ x ∷ []) (now ++ (others ++ last ∷ []))
exchanged {X} found front others now last x all same =
    let rest : List X = others ++ last ∷ [] in
    let behind : IsPermutation ((front ++ last ∷ []) ++ others) (front ++ rest) =
    subst (λ (ws : List X). IsPermutation ws (front ++ rest)) (sym (append_assoc front (last ∷ []) others))
    (IsPermutation-append_right front (last ∷ [] ++ others) rest (IsPermutation-append_comm (last ∷ []) others)) in
    let more : IsPermutation (found ++ x ∷ []) ((front ++ rest) ++ x ∷ []) =
    IsPermutation-append_left (x ∷ []) found (front ++ rest) (IsPermutation-trans _ _ _ all behind) in
    let before : IsPermutation ((front ++ rest) ++ x ∷ []) ((front ++ x ∷ []) ++ rest) =
    subst (λ (ws : List X). IsPermutation ws ((front ++ x ∷ []) ++ rest)) (sym (append_assoc front rest (x ∷ [])))
    (subst (λ (ws : List X). IsPermutation (front ++ (rest ++ x ∷ [])) ws) (sym (append_assoc front (x ∷ []) rest))
    (IsPermutation-append_right front (rest ++ x ∷ []) (x ∷ [] ++ rest) (IsPermutation-append_comm rest (x ∷ [])))) in
    IsPermutation-trans _ _ _ more (IsPermutation-trans _ _ _ before (IsPermutation-append_left rest (front ++ x ∷ []) now same))

-- The worst

-- one more has room
pub with-room : (found worst now : List Found) (x : Found) → length worst < 10 → AreWorst found worst
    → IsPermutation (worst ++ x ∷ []) now → IsSortedBy comes_before now → AreWorst (found ++ x ∷ []) now
with-room found worst now x few was same up = by was.full where
  by : (length worst ≡ 10) ⊎ (was.others ≡ []) → AreWorst (found ++ x ∷ []) now
  by (inl ten) = absurd (omega (arith, few, ten))
  by (inr none) =
      let all : IsPermutation found worst =
      subst (λ (ws : List Found). IsPermutation found ws) (ap (λ os. worst ++ os) none ∙ append-nil worst) was.all in
      record {
        others = [];
        all = subst (λ (ws : List Found). IsPermutation (found ++ x ∷ []) ws) (sym (append-nil now))
            (IsPermutation-trans _ _ _ (IsPermutation-append_left (x ∷ []) found worst all) same);
        sorted = up;
        most = omega (arith, few, length_permutation _ _ same, length-append worst (x ∷ []));
        full = inr refl;
        worse = λ k d within. λ j e never. absurd (omega (arith, never));
      }

-- one more comes no sooner than the last of ten
pub left-out : (found front : List Found) (last x : Found) → length (front ++ last ∷ []) ≡ 10
    → AreWorst found (front ++ last ∷ []) → comes_before x last ≡ false → AreWorst (found ++ x ∷ []) (front ++ last ∷ [])
left-out found front last x ten was later =
    let worst : List Found = front ++ last ∷ [] in
    let after : All (λ one. comes_before last one ≡ false) worst =
    last-after comes_before before-orders front last was.sorted in
    record {
      others = was.others ++ x ∷ [];
      all = subst (λ (ws : List Found). IsPermutation (found ++ x ∷ []) ws) (append_assoc worst was.others (x ∷ []))
          (IsPermutation-append_left (x ∷ []) found (worst ++ was.others) was.all);
      sorted = was.sorted;
      most = was.most;
      full = inl ten;
      worse = λ k d within.
          All-push (λ other. comes_before other (get_or worst k d) ≡ false) was.others x (was.worse k d within)
          (before-orders.chain x last (get_or worst k d) later (after k d within));
    }

-- one more comes before the last of ten
pub in-place : (found front now : List Found) (last x : Found) → length (front ++ last ∷ []) ≡ 10
    → AreWorst found (front ++ last ∷ []) → comes_before x last ≡ true → IsPermutation (front ++ x ∷ []) now
    → IsSortedBy comes_before now → AreWorst (found ++ x ∷ []) now
in-place found front now last x ten was sooner same up =
    let worst : List Found = front ++ last ∷ [] in
    let others : List Found = was.others in
    let after : All (λ one. comes_before last one ≡ false) worst =
    last-after comes_before before-orders front last was.sorted in
    let Lets : Found → Type 0 = λ one. All (λ other. comes_before other one ≡ false) (others ++ last ∷ []) in
    let all-lets : All Lets worst = λ k d within.
    All-push (λ other. comes_before other (get_or worst k d) ≡ false) others last (was.worse k d within) (after k d within) in
    let front-lets : All Lets front = All-front Lets front (last ∷ []) all-lets in
    let last-lets : Lets last = All-last Lets front last all-lets in
    let x-lets : Lets x = λ k d within.
    before-orders.chain (get_or (others ++ last ∷ []) k d) last x (last-lets k d within) (before-orders.one_way x last sooner) in
    record {
      others = others ++ last ∷ [];
      all = exchanged found front others now last x was.all same;
      sorted = up;
      most = omega (arith, ten, length_permutation _ _ same, length-append front (x ∷ []), length-append front (last ∷ []));
      full = inl (omega (arith, ten, length_permutation _ _ same, length-append front (x ∷ []), length-append front (last ∷ [])));
      worse = All-permutation Lets (front ++ x ∷ []) now same (All-push Lets front x front-lets x-lets);
    }

pub kept-orders : IsStrictWeakOrder kept_before
kept-orders = record {
  one_way = λ one other. before-orders.one_way one.found other.found;
  chain = λ one other third. before-orders.chain one.found other.found third.found;
}

-- Those that are kept

found-same : (kept now : List Kept) (more : Kept) → IsPermutation (kept ++ more ∷ []) now
    → IsPermutation (map found_of kept ++ more.found ∷ []) (map found_of now)
found-same kept now more same =
    subst (λ (fs : List Found). IsPermutation fs (map found_of now)) (map-append found_of kept (more ∷ []))
    (IsPermutation-map found_of (kept ++ more ∷ []) now same)

pub among-kept : (kept : List Kept) (more : Kept) → All (Contains (kept ++ more ∷ [])) kept
among-kept kept more =
    All-front (Contains (kept ++ more ∷ [])) kept (more ∷ []) (All-contains_itself (kept ++ more ∷ []))

pub among-same : (kept now : List Kept) (more : Kept) → IsPermutation (kept ++ more ∷ []) now
    → All (Contains (kept ++ more ∷ [])) now
among-same kept now more same =
    All-permutation (Contains (kept ++ more ∷ [])) (kept ++ more ∷ []) now same (All-contains_itself (kept ++ more ∷ []))

module _ (kept front now : List Kept) (last more : Kept) (was : kept ≡ front ++ last ∷ []) where
  split : map found_of kept ≡ map found_of front ++ last.found ∷ []
  split = ap (map found_of) was ∙ map-append found_of front (last ∷ [])

  -- the found ones of ten that are kept
  pub kept-ten : 10 ≤ length kept → (found : List Found) → AreWorst found (map found_of kept)
      → length (map found_of front ++ last.found ∷ []) ≡ 10
  kept-ten ten found worst =
      omega (arith, ten, worst.most, length-map kept found_of, ap (λ (xs : List Found). length xs) split)

  pub kept-left-out : 10 ≤ length kept → comes_before more.found last.found ≡ false → now ≡ front ++ last ∷ []
      → (found : List Found) → AreWorst found (map found_of kept) → AreWorst (found ++ more.found ∷ []) (map found_of now)
  kept-left-out ten later is found worst =
      subst (λ (ks : List Found). AreWorst (found ++ more.found ∷ []) ks)
      (sym (ap (map found_of) is ∙ map-append found_of front (last ∷ [])))
      (left-out found (map found_of front) last.found more.found (kept-ten ten found worst)
      (subst (λ (ks : List Found). AreWorst found ks) split worst) later)

  pub kept-in-place : 10 ≤ length kept → comes_before more.found last.found ≡ true → IsPermutation (front ++ more ∷ []) now
      → IsSortedBy kept_before now
      → (found : List Found) → AreWorst found (map found_of kept) → AreWorst (found ++ more.found ∷ []) (map found_of now)
  kept-in-place ten sooner same up found worst =
      in-place found (map found_of front) (map found_of now) last.found more.found (kept-ten ten found worst)
      (subst (λ (ks : List Found). AreWorst found ks) split worst) sooner (found-same front now more same)
      (sorted-map found_of comes_before now up)

  pub among-in-place : IsPermutation (front ++ more ∷ []) now → All (Contains (kept ++ more ∷ [])) now
  among-in-place same =
      All-permutation (Contains (kept ++ more ∷ [])) (front ++ more ∷ []) now same
      (All-push (Contains (kept ++ more ∷ [])) front more
      (All-front (Contains (kept ++ more ∷ [])) front (last ∷ [])
      (subst (λ (ks : List Kept). All (Contains (kept ++ more ∷ [])) ks) was (among-kept kept more)))
      (Contains-push kept more))

pub kept-with-room : (kept now : List Kept) (more : Kept) → length kept < 10 → IsPermutation (kept ++ more ∷ []) now
    → IsSortedBy kept_before now
    → (found : List Found) → AreWorst found (map found_of kept) → AreWorst (found ++ more.found ∷ []) (map found_of now)
kept-with-room kept now more few same up found worst =
    with-room found (map found_of kept) (map found_of now) more.found (omega (arith, few, length-map kept found_of)) worst
    (found-same kept now more same) (sorted-map found_of comes_before now up)

-- All at once

-- the first ten of all in their order
pub first-ten : (found order : List Found) → IsPermutation found order → IsSortedBy comes_before order
    → AreWorst found (take 10 order)
first-ten found order same up = record {
  others = drop 10 order;
  all = subst (λ (fs : List Found). IsPermutation found fs) (sym (take-append-drop 10 order)) same;
  sorted = sorted-front comes_before (take 10 order) (drop 10 order)
      (subst (λ (fs : List Found). IsSortedBy comes_before fs) (sym (take-append-drop 10 order)) up);
  most = omega (arith, length-take 10 order);
  full = by (leb 10 (length order)) refl;
  worse = λ k d within.
      All-from_get_or (λ other. comes_before other (get_or (take 10 order) k d) ≡ false) (drop 10 order) d
      (λ j inside.
      let few : k < 10 = omega (arith, within, length-take 10 order) in
      subst (λ (x : Found). comes_before x (get_or (take 10 order) k d) ≡ false) (sym (get_or-drop 10 order j d))
      (subst (λ (x : Found). comes_before (get_or order (10 + j) d) x ≡ false) (sym (get_or-take 10 order k d few))
      (sorted_far comes_before before-orders order up k (10 + j) d (omega arith) (omega (arith, inside, length-drop 10 order)))));
}
  where
    by : (b : Bool) → leb 10 (length order) ≡ b → (length (take 10 order) ≡ 10) ⊎ (drop 10 order ≡ [])
    by true e =
        let many : 10 ≤ length order = grind (arith, nat_tests) in
        inl (length-take-le 10 order many)
    by false e =
        let few : length order ≤ 10 = grind (arith, nat_tests) in
        inr (drop_all 10 order few)

pub sorted-by-cmp : (order : List Found) → IsSortedBy (λ a b. is_lt (found_cmp a b)) order → IsSortedBy comes_before order
sorted-by-cmp order up = λ k d low within. sym (same-order (get_or order (k + 1) d) (get_or order k d)) ∙ up k d low within

pub none-worst : AreWorst [] []
none-worst = record {
  others = [];
  all = IsPermutation-refl [];
  sorted = λ k d low never. absurd (omega (arith, never));
  most = omega arith;
  full = inr refl;
  worse = λ k d never. absurd (omega (arith, never));
}
