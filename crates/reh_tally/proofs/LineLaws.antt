-- Lines that fall: the last one comes before the others.
use Rattle.std.proofs.Common.{sum_by, ◌≡◌, ◌∙◌, ◌+◌, ◌<◌, ℕ, Bool, true, false, cond, All, List, [], ◌∷◌, ◌++◌, length, get_or, set, refl, ap, sym, subst, inl, inr, arith}
use Rattle.std.specs.Cmp.{IsStrictWeakOrder, IsTotalOrder}
use Rattle.std.specs.List.Sorted.{IsSortedBy}
use Rattle.std.specs.Ordering.{is_eq, is_gt, is_lt, ordering_reverse}
use Rattle.std.specs.declared.cmp.Ordering.{Ordering}
use Rattle.std.specs.declared.cmp.Ordering.TheVariants.{Less, Equal, Greater}
use Rattle.reh_census.specs.Order.{InOrder}
use Rattle.std.proofs.lemmas.Bool.{cases_eq, cases_lt}
use Rattle.std.proofs.lemmas.List.{get_or-set_other, get_or-set_same, get_or_append_left, get_or_push, get_or_read, length-set, length_push}
use Rattle.std.proofs.lemmas.List.Elements.{All-push}
use Rattle.std.proofs.lemmas.List.Sums.{sum_by-set, sum_by_push}
use Rattle.std.proofs.lemmas.List.Sorted.{IsStrictWeakOrder-flip, ranks_by, sorted_far}

abbrev pub falls : {X K : Type 0} → (X → K) → (K → K → Ordering) → X → X → Bool
falls kind cmp one next = is_lt (cmp (kind next) (kind one))

pub falls_order : {X K : Type 0} (kind : X → K) (cmp : K → K → Ordering) → IsTotalOrder cmp → IsStrictWeakOrder (falls kind cmp)
falls_order kind cmp total = IsStrictWeakOrder-flip (λ one next. is_lt (cmp (kind one) (kind next))) (ranks_by total kind)

-- what stands before the last one is sorted
pub front_sorted : {X : Type 0} (lt : X → X → Bool) (xs ys : List X) (x : X) → ys ≡ xs ++ x ∷ [] → IsSortedBy lt ys → IsSortedBy lt xs
front_sorted lt xs ys x is sorted k d from below =
    let at : (n : ℕ) → n < length xs → get_or ys n d ≡ get_or xs n d =
    λ n within. ap (λ zs. get_or zs n d) is ∙ get_or_append_left xs (x ∷ []) d n within in
    let long : length ys ≡ length xs + 1 = ap length is ∙ length_push xs x in
    sym (λ i. lt (at (k + 1) below i) (at k (omega (arith, below)) i)) ∙ sorted k d from (omega (arith, below, long))

turned : (o : Ordering) → is_gt (ordering_reverse o) ≡ is_lt o
turned Less = refl
turned Equal = refl
turned Greater = refl

pub not_after : {K : Type 0} (cmp : K → K → Ordering) → IsTotalOrder cmp → (one next : K) → is_lt (cmp next one) ≡ false
    → is_gt (cmp one next) ≡ false
not_after cmp total one next stands = ap is_gt (total.antisymm one next) ∙ turned (cmp next one) ∙ stands

-- the last one doesn't come after another
pub last_first : {X K : Type 0} (kind : X → K) (cmp : K → K → Ordering) → IsTotalOrder cmp → (xs ys : List X) (x : X)
    → ys ≡ xs ++ x ∷ [] → IsSortedBy (falls kind cmp) ys → All (λ left. is_gt (cmp (kind x) (kind left)) ≡ false) xs
last_first kind cmp total xs ys x is sorted k d below =
    let long : length ys ≡ length xs + 1 = ap length is ∙ length_push xs x in
    let here : get_or ys k d ≡ get_or xs k d = ap (λ zs. get_or zs k d) is ∙ get_or_append_left xs (x ∷ []) d k below in
    let last : get_or ys (length xs) d ≡ x = ap (λ zs. get_or zs (length xs) d) is ∙ get_or_push xs x d (length xs) refl in
    let far : falls kind cmp (get_or ys (length xs) d) (get_or ys k d) ≡ false =
    sorted_far (falls kind cmp) (falls_order kind cmp total) ys sorted k (length xs) d (omega (arith, below)) (omega (arith, long)) in
    not_after cmp total (kind x) (kind (get_or xs k d)) (sym (λ i. falls kind cmp (last i) (here i)) ∙ far)

-- what holds of all holds of the last one, and of those before it
pub All-last : {X : Type 0} (P : X → Type 0) (xs ys : List X) (x : X) → ys ≡ xs ++ x ∷ [] → All P ys → P x
All-last P xs ys x is all =
    let long : length ys ≡ length xs + 1 = ap length is ∙ length_push xs x in
    let last : get_or ys (length xs) x ≡ x = ap (λ zs. get_or zs (length xs) x) is ∙ get_or_push xs x x (length xs) refl in
    subst P last (all (length xs) x (omega (arith, long)))

pub All-front : {X : Type 0} (P : X → Type 0) (xs ys : List X) (x : X) → ys ≡ xs ++ x ∷ [] → All P ys → All P xs
All-front P xs ys x is all k d below =
    let long : length ys ≡ length xs + 1 = ap length is ∙ length_push xs x in
    let here : get_or ys k d ≡ get_or xs k d = ap (λ zs. get_or zs k d) is ∙ get_or_append_left xs (x ∷ []) d k below in
    subst P here (all k d (omega (arith, below, long)))

-- the sum of all is that of those before the last one, and of the last one
pub sum-last : {X : Type 0} (f : X → ℕ) (xs ys : List X) (x : X) → ys ≡ xs ++ x ∷ [] → sum_by f ys ≡ sum_by f xs + f x
sum-last f xs ys x is = ap (λ zs. sum_by f zs) is ∙ sum_by_push f xs x

pub sum-none : {X : Type 0} (f : X → ℕ) (xs : List X) → length xs ≡ 0 → sum_by f xs ≡ 0
sum-none f [] none = refl
sum-none f (x ∷ xs) none = absurd (omega (arith, none))

-- of no lines all holds
pub All-none : {X : Type 0} (P : X → Type 0) (xs : List X) → length xs ≡ 0 → All P xs
All-none P xs none k d below = absurd (omega (arith, none, below))

pub InOrder-none : {X : Type 0} (cmp : X → X → Ordering) (xs : List X) → length xs ≡ 0 → InOrder cmp xs
InOrder-none cmp xs none k d below = absurd (omega (arith, none, below))

equal : (o : Ordering) → is_eq o ≡ true → o ≡ Equal
equal Less same = cc
equal Equal same = refl
equal Greater same = cc

less : (o : Ordering) → is_gt o ≡ false → is_eq o ≡ false → o ≡ Less
less Less behind apart = refl
less Equal behind apart = cc
less Greater behind apart = cc

count_more : (b : Bool) (n more : ℕ) → cond b (n + more) 0 ≡ cond b n 0 + cond b more 0
count_more true n more = refl
count_more false n more = refl

-- a line that is written where one of its kind was
module _ {X K : Type 0} (kind : X → K) (xs : List X) (i : ℕ) (was now : X) (within : i < length xs) (at : was ≡ get_or xs i was)
    (same : kind now ≡ kind was) where
  here : (k : ℕ) (d : X) → k ≡ i → kind (get_or (set xs i now) k d) ≡ kind (get_or xs k d)
  here k d is =
      ap (λ n. kind (get_or (set xs i now) n d)) is ∙ ap kind (get_or-set_same xs i now d within) ∙ same
      ∙ ap kind (get_or_read xs i was within at d) ∙ ap (λ n. kind (get_or xs n d)) (sym is)

  kind-set : (k : ℕ) (d : X) → kind (get_or (set xs i now) k d) ≡ kind (get_or xs k d)
  kind-set k d = elim (cases_eq k i) [
    | inl is ↦ here k d is
    | inr other ↦ ap kind (get_or-set_other xs i k now d other)
  ]

  pub All-set_kind : (P : K → Type 0) → All (λ one. P (kind one)) xs → All (λ one. P (kind one)) (set xs i now)
  All-set_kind P all k d below = subst P (sym (kind-set k d)) (all k d (omega (arith, below, length-set xs i now)))

  pub InOrder-set_kind : (cmp : K → K → Ordering) → InOrder (λ one next. cmp (kind one) (kind next)) xs
      → InOrder (λ one next. cmp (kind one) (kind next)) (set xs i now)
  InOrder-set_kind cmp order k d below =
      (λ j. cmp (kind-set k d j) (kind-set (k + 1) d j)) ∙ order k d (omega (arith, below, length-set xs i now))

  pub sum-set_kind : (count : X → ℕ) (test : K → Bool) (line : X) (n : ℕ) → kind was ≡ kind line → count now ≡ count was + n → n ≡ count line
      → sum_by (λ one. cond (test (kind one)) (count one) 0) (set xs i now)
      ≡ sum_by (λ one. cond (test (kind one)) (count one) 0) xs + cond (test (kind line)) (count line) 0
  sum-set_kind count test line n alike more all =
      let f : X → ℕ = λ one. cond (test (kind one)) (count one) 0 in
      let counted : f now ≡ f was + f line =
      (λ j. cond (test (same j)) ((more ∙ ap (λ m. count was + m) all) j) 0) ∙ count_more (test (kind was)) (count was) (count line)
      ∙ ap (λ k. cond (test (kind was)) (count was) 0 + cond (test k) (count line) 0) alike in
      omega (arith, counted, sum_by-set f xs i now was within, ap f at)

-- the line that is compared with the last one is of its kind
pub alike-last : {X K : Type 0} (kind : X → K) (cmp : K → K → Ordering) → ((one other : K) → cmp one other ≡ Equal → one ≡ other)
    → (xs : List X) (n : ℕ) (found was line : X) (o : Ordering) → n < length xs → found ≡ get_or xs n found → was ≡ get_or xs n was
    → o ≡ cmp (kind found) (kind line) → true ≡ is_eq o → kind was ≡ kind line
alike-last kind cmp exact xs n found was line o within at at_was compared same =
    ap kind (at_was ∙ sym (get_or_read xs n found within at was)) ∙ exact (kind found) (kind line) (sym compared ∙ equal o (sym same))

-- or it comes after it
pub less-last : {X K : Type 0} (kind : X → K) (cmp : K → K → Ordering) (xs : List X) (n : ℕ) (found line : X) (o : Ordering)
    → n + 1 ≡ length xs → found ≡ get_or xs n found → o ≡ cmp (kind found) (kind line) → false ≡ is_eq o
    → All (λ one. is_gt (cmp (kind one) (kind line)) ≡ false) xs
    → (k : ℕ) (d : X) → k + 1 ≡ length xs → cmp (kind (get_or xs k d)) (kind line) ≡ Less
less-last kind cmp xs n found line o long at compared apart behind k d last =
    let here : k ≡ n = omega (arith, last, long) in
    let is : get_or xs k d ≡ found = ap (λ m. get_or xs m d) here ∙ sym (get_or_read xs n found (omega (arith, long)) at d) in
    less (cmp (kind (get_or xs k d)) (kind line)) (behind k d (omega (arith, last)))
    (ap (λ one. is_eq (cmp (kind one) (kind line))) is ∙ ap is_eq (sym compared) ∙ sym apart)

-- a line is added after all of them
pub All-added : {X : Type 0} (P : X → Type 0) (xs ys : List X) (x : X) → ys ≡ xs ++ x ∷ [] → All P xs → P x → All P ys
All-added P xs ys x is all holds = subst (λ zs. All P zs) (sym is) (All-push P xs x all holds)

InOrder-push : {X : Type 0} (cmp : X → X → Ordering) (xs : List X) (x : X) → InOrder cmp xs
    → ((k : ℕ) (d : X) → k + 1 ≡ length xs → cmp (get_or xs k d) x ≡ Less) → InOrder cmp (xs ++ x ∷ [])
InOrder-push cmp xs x order last k d below = elim (cases_lt (k + 1) (length xs)) [
  | inl within ↦ before within
  | inr past ↦ at_end (omega (arith, below, past, length_push xs x))
] where
  left : (n : ℕ) → n < length xs → get_or (xs ++ x ∷ []) n d ≡ get_or xs n d
  left n within = get_or_append_left xs (x ∷ []) d n within

  before : k + 1 < length xs → cmp (get_or (xs ++ x ∷ []) k d) (get_or (xs ++ x ∷ []) (k + 1) d) ≡ Less
  before within = (λ i. cmp (left k (omega (arith, within)) i) (left (k + 1) within i)) ∙ order k d within

  at_end : length xs ≡ k + 1 → cmp (get_or (xs ++ x ∷ []) k d) (get_or (xs ++ x ∷ []) (k + 1) d) ≡ Less
  at_end long = (λ i. cmp (left k (omega (arith, long)) i) (get_or_push xs x d (k + 1) long i)) ∙ last k d (sym long)

pub InOrder-added : {X : Type 0} (cmp : X → X → Ordering) (xs ys : List X) (x : X) → ys ≡ xs ++ x ∷ [] → InOrder cmp xs
    → ((k : ℕ) (d : X) → k + 1 ≡ length xs → cmp (get_or xs k d) x ≡ Less) → InOrder cmp ys
InOrder-added cmp xs ys x is order last = subst (λ zs. InOrder cmp zs) (sym is) (InOrder-push cmp xs x order last)
