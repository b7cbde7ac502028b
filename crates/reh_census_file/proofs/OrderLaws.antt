-- Lists that go on in order, and lists of names.
use Rattle.std.proofs.Common.{◌≡◌, ℕ, suc, ◌+◌, ◌-◌, ◌<◌, Bool, true, false, List, [], ◌∷◌, ◌++◌, length, get_or, refl, sym, ap, subst, ◌∙◌, arith, length-append, inl, inr}
use Rattle.std.specs.Prelude.{◌||◌}
use Rattle.std.specs.List.{AllByRecursion, IsDistinct, list_any}
use Rattle.std.specs.Option.{option_map_or}
use Rattle.std.specs.Ordering.{is_lt}
use Rattle.std.specs.Str.{bytes_eq}
use Rattle.std.specs.declared.cmp.Ordering.{Ordering}
use Rattle.std.specs.declared.cmp.Ordering.TheVariants.{Less, Equal, Greater}
use Rattle.std.proofs.Math.Seq.{get_or-append_seam}
use Rattle.std.proofs.lemmas.Bool.{cases_lt, false≢true}
use Rattle.std.proofs.lemmas.List.{get_or_append_left}
use Rattle.std.proofs.lemmas.Option.{slice_get-get_or}
use Rattle.std.proofs.lemmas.Slice.Eq.{bytes_eq-Decides}
use Rattle.reh_census.specs.Order.{InOrder}
use Rattle.reh_census_file.specs.Drafts.{is_later}

is_less : (o : Ordering) → is_lt o ≡ true → o ≡ Less
is_less Less e = refl
is_less Equal e = absurd cc
is_less Greater e = absurd cc

module _ {X : Type 0} (cmp : X → X → Ordering) where
  -- what comes after the last one goes on in order
  pub InOrder-push : (xs : List X) (x : X) → InOrder cmp xs → is_later cmp xs x ≡ true → InOrder cmp (xs ++ x ∷ [])
  InOrder-push xs x order later k d within =
      elim (cases_lt (k + 1) (length xs)) [
        | inl inside ↦
            subst (λ (o : X). cmp o (get_or (xs ++ x ∷ []) (k + 1) d) ≡ Less) (sym (get_or_append_left xs (x ∷ []) d k (omega arith)))
            (subst (λ (o : X). cmp (get_or xs k d) o ≡ Less) (sym (get_or_append_left xs (x ∷ []) d (k + 1) inside)) (order k d inside))
        | inr past ↦
            let at : k + 1 ≡ length xs = omega (arith, length-append xs (x ∷ [])) in
            let below : length xs - 1 < length xs = omega arith in
            let is-k : length xs - 1 ≡ k = omega arith in
            let last : cmp (get_or xs k d) x ≡ Less =
            is_less (cmp (get_or xs k d) x) (ap (λ i. is_lt (cmp (get_or xs i d) x)) (sym is-k) ∙ sym (ap (λ o. option_map_or (λ l. is_lt (cmp l x)) o true) (slice_get-get_or xs (length xs - 1) d below)) ∙ later) in
            subst (λ (o : X). cmp o (get_or (xs ++ x ∷ []) (k + 1) d) ≡ Less) (sym (get_or_append_left xs (x ∷ []) d k (omega arith)))
            (subst (λ (o : X). cmp (get_or xs k d) o ≡ Less) (sym (ap (λ i. get_or (xs ++ x ∷ []) i d) at ∙ get_or-append_seam xs x [] d)) last)
      ]

  -- and in a list in order each comes after those before it
  pub is_later-before : (xs : List X) (x : X) (ys : List X) → InOrder cmp (xs ++ x ∷ ys) → is_later cmp xs x ≡ true
  is_later-before [] x ys order = refl
  is_later-before (y ∷ xs) x ys order =
      let all = y ∷ xs in
      let n = length xs in
      let whole : length (all ++ x ∷ ys) ≡ suc n + suc (length ys) = length-append all (x ∷ ys) in
      let less = order n x (omega (arith, whole)) in
      let one : n + 1 ≡ length all = omega arith in
      let last : cmp (get_or all n x) x ≡ Less =
      ap (λ o. cmp o x) (sym (get_or_append_left all (x ∷ ys) x n (omega arith))) ∙ ap (λ o. cmp (get_or (all ++ x ∷ ys) n x) o) (sym (ap (λ i. get_or (all ++ x ∷ ys) i x) one ∙ get_or-append_seam all x ys x)) ∙ less in
      let is-n : length all - 1 ≡ n = omega arith in
      ap (λ o. option_map_or (λ l. is_lt (cmp l x)) o true) (slice_get-get_or all (length all - 1) x (omega arith)) ∙ ap (λ i. is_lt (cmp (get_or all i x) x)) is-n ∙ ap is_lt last

  pub InOrder-front : (xs ys : List X) → InOrder cmp (xs ++ ys) → InOrder cmp xs
  InOrder-front xs ys order k d within =
      subst (λ (o : X). cmp o (get_or xs (k + 1) d) ≡ Less) (get_or_append_left xs ys d k (omega arith))
      (subst (λ (o : X). cmp (get_or (xs ++ ys) k d) o ≡ Less) (get_or_append_left xs ys d (k + 1) within) (order k d (omega (arith, length-append xs ys))))

module _ {X : Type 0} (P : X → Type 0) where
  pub All-push : (xs : List X) (x : X) → AllByRecursion P xs → P x → AllByRecursion P (xs ++ x ∷ [])
  All-push [] x all one = (one, tt)
  All-push (y ∷ xs) x all one = (all.0, All-push xs x all.1 one)

  pub All-at : (xs : List X) (x : X) (ys : List X) → AllByRecursion P (xs ++ x ∷ ys) → P x
  All-at [] x ys all = all.0
  All-at (y ∷ xs) x ys all = All-at xs x ys all.1

-- Names

pub names_sym : (x y : List ℕ) → bytes_eq x y ≡ false → bytes_eq y x ≡ false
names_sym x y differ = go (bytes_eq y x) refl
  where
    go : (b : Bool) → bytes_eq y x ≡ b → bytes_eq y x ≡ false
    go false e = e
    go true e = absurd (false≢true (sym differ ∙ (bytes_eq-Decides x y).1 (sym ((bytes_eq-Decides y x).0 e))))

or_false : (a b : Bool) → (a || b) ≡ false → (a ≡ false) × (b ≡ false)
or_false true b e = absurd cc
or_false false b e = (refl, e)

-- a new name is apart from all others
pub IsDistinct-push : (names : List (List ℕ)) (name : List ℕ) → IsDistinct bytes_eq names → list_any (bytes_eq name) names ≡ false → IsDistinct bytes_eq (names ++ name ∷ [])
unfolding IsDistinct
IsDistinct-push [] name distinct new = (tt, tt)
IsDistinct-push (first ∷ names) name distinct new =
    let split = or_false (bytes_eq name first) (list_any (bytes_eq name) names) new in
    (All-push (λ (y : List ℕ). bytes_eq first y ≡ false) names name distinct.0 (names_sym name first split.0), IsDistinct-push names name distinct.1 split.1)

-- and in a list of names apart each is new to those before it
pub new-before : (xs : List (List ℕ)) (x : List ℕ) (ys : List (List ℕ)) → IsDistinct bytes_eq (xs ++ x ∷ ys) → list_any (bytes_eq x) xs ≡ false
unfolding IsDistinct
new-before [] x ys distinct = refl
new-before (first ∷ xs) x ys distinct =
    ap (λ b. b || list_any (bytes_eq x) xs) (names_sym first x (All-at (λ (y : List ℕ). bytes_eq first y ≡ false) xs x ys distinct.0)) ∙ new-before xs x ys distinct.1
