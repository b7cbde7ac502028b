-- What is held after copies are added.
use Rattle.std.proofs.Common.{◌≡◌, ℕ, ◌+◌, Bool, true, false, ◌≤◌, ◌&&◌, ◌||◌, List, [], ◌∷◌, map, inl, inr, refl, sym, ap, ◌∙◌, subst, nat_eq, arith}
use Rattle.std.specs.Prelude.{◌==◌, cond, max, count_by, All}
use Rattle.std.specs.List.{list_any, filter, fold, reduce}
use Rattle.std.specs.Option.{option_map_or}
use Rattle.std.specs.FinMap.Entries.{put, by_order}
use Rattle.std.specs.declared.option.Option.{Option}
use Rattle.std.specs.declared.option.Option.TheVariants.{None, Some}
use Rattle.std.specs.Ordering.{nat_cmp, eq_by_cmp, is_eq, ordering_then}
use Rattle.std.specs.Cmp.{unsigned_tied, Equal-is}
use Rattle.std.proofs.lemmas.Bool.{cases_lt}
use Rattle.std.proofs.lemmas.Bool.Decides.{nat_tests}
use Rattle.std.proofs.lemmas.List.Elements.{All-head, All-tail}
use Rattle.std.proofs.lemmas.List.Sums.{sum_by-cons}
use Rattle.std.specs.declared.cmp.Ordering.{Ordering}
use Rattle.std.specs.declared.cmp.Ordering.TheVariants.{Less, Equal, Greater}
use Rattle.reh_types.specs.Sets as set
use Rattle.reh_types.specs.Sets.{triples, triple_cmp, triple_exact, same_set, contains-items, contains-insert, contains-union, contains-from_list, insert, items}
use Rattle.reh_model.specs.Contents.{Contents, has, IsHeld, copies_of, count_held, greatest_held}
use Rattle.reh_model.proofs.Ranges.{list_any-map, list_any-same}

or_true : (a b : Bool) → b ≡ true → (a || b) ≡ true
or_true true b is = refl
or_true false b is = is

both_eq : (r s : Ordering) → is_eq (ordering_then r s) ≡ (is_eq r && is_eq s)
both_eq Less s = refl
both_eq Equal s = refl
both_eq Greater s = refl

-- triples tie if their numbers are equal
pub triples_tied : (a b : ℕ × ℕ × ℕ) → eq_by_cmp triple_cmp a b ≡ ((nat_eq a.0 b.0 && nat_eq a.1 b.1) && nat_eq a.2 b.2)
triples_tied a b =
    both_eq (ordering_then (nat_cmp a.0 b.0) (nat_cmp a.1 b.1)) (nat_cmp a.2 b.2)
    ∙ ap (λ c. c && is_eq (nat_cmp a.2 b.2)) (both_eq (nat_cmp a.0 b.0) (nat_cmp a.1 b.1))
    ∙ (λ i. ((unsigned_tied a.0 b.0 i) && (unsigned_tied a.1 b.1 i)) && (unsigned_tied a.2 b.2 i))

list_any-and : {X : Type 0} (c : Bool) (p : X → Bool) (xs : List X) → list_any (λ x. c && p x) xs ≡ (c && list_any p xs)
list_any-and true p xs = refl
list_any-and false p [] = refl
list_any-and false p (x ∷ xs) = list_any-and false p xs

-- after one copy is added, it is held, and what was held before
pub has-insert : (contents : Contents) (w l x b k e : ℕ) → has (set.insert contents (w, l, x)) b k e ≡ (((nat_eq b w && nat_eq k l) && nat_eq e x) || has contents b k e)
has-insert contents w l x b k e = contains-insert contents (w, l, x) (b, k, e) ∙ ap (λ c. c || has contents b k e) (triples_tied (b, k, e) (w, l, x))

-- the copies of a bookie, a ledger and some entries are these, and no others
pub has-copies_of : (w l : ℕ) (es : List ℕ) (b k e : ℕ) → has (copies_of w l es) b k e ≡ ((nat_eq b w && nat_eq k l) && list_any (nat_eq e) es)
has-copies_of w l es b k e =
    contains-from_list triples (map (λ x. (w, l, x)) es) (b, k, e)
    ∙ list_any-map (eq_by_cmp triple_cmp (b, k, e)) (λ x. (w, l, x)) es
    ∙ list_any-same (λ x. eq_by_cmp triple_cmp (b, k, e) (w, l, x)) (λ x. (nat_eq b w && nat_eq k l) && nat_eq e x) (λ x. triples_tied (b, k, e) (w, l, x)) es
    ∙ list_any-and (nat_eq b w && nat_eq k l) (nat_eq e) es

-- after copies of some entries are added, these are held, and what was held before
pub has-union-copies_of : (contents : Contents) (w l : ℕ) (es : List ℕ) (b k e : ℕ)
    → has (set.union contents (copies_of w l es)) b k e ≡ (has contents b k e || ((nat_eq b w && nat_eq k l) && list_any (nat_eq e) es))
has-union-copies_of contents w l es b k e = contains-union contents (copies_of w l es) (b, k, e) ∙ ap (λ c. has contents b k e || c) (has-copies_of w l es b k e)

-- no entries add nothing
pub union-copies_of-none : (contents : Contents) (w l : ℕ) → set.union contents (copies_of w l []) ≡ contents
union-copies_of-none contents w l = same_set (set.union contents (copies_of w l [])) contents (λ t.
    has-union-copies_of contents w l [] t.0 t.1 t.2 ∙ none (has contents t.0 t.1 t.2) (nat_eq t.0 w && nat_eq t.1 l)) where
      none : (held place : Bool) → (held || (place && false)) ≡ held
      none true place = refl
      none false true = refl
      none false false = refl

-- The greatest entry of a ledger

-- the greater of an entry and what was the greatest, if the entry is of the ledger
abbrev with_entry : Bool → ℕ → Option ℕ → Option ℕ
with_entry here e greatest = cond here (Some (option_map_or (λ m. max m e) greatest e)) greatest

with_entry-twice : (here : Bool) (e : ℕ) (greatest : Option ℕ) → with_entry here e greatest ≡ with_entry here e (with_entry here e greatest)
with_entry-twice true e None = ap Some (omega arith)
with_entry-twice true e (Some m) = ap Some (omega arith)
with_entry-twice false e greatest = refl

with_entry-turned : (here there : Bool) (d e : ℕ) (greatest : Option ℕ) → with_entry here d (with_entry there e greatest) ≡ with_entry there e (with_entry here d greatest)
with_entry-turned true true d e None = ap Some (omega arith)
with_entry-turned true true d e (Some m) = ap Some (omega arith)
with_entry-turned true false d e greatest = refl
with_entry-turned false there d e greatest = refl

fold-max : (x y : ℕ) (es : List ℕ) → fold max (max x y) es ≡ max (fold max y es) x
fold-max x y [] = omega arith
fold-max x y (e ∷ es) =
    let regrouped : max (max x y) e ≡ max x (max y e) = omega arith in
    ap (λ z. fold max z es) regrouped ∙ fold-max x (max y e) es

reduce-max : (e : ℕ) (es : List ℕ) → reduce max (e ∷ es) ≡ with_entry true e (reduce max es)
reduce-max e [] = refl
reduce-max e (d ∷ es) = ap Some (fold-max e d es)

-- the greatest entry of ledger k among the copies
abbrev greatest_among : ℕ → List (ℕ × ℕ × ℕ) → Option ℕ
greatest_among k ts = reduce max (map (λ t. t.2) (filter (λ t. t.1 == k) ts))

greatest_among-cons : (k : ℕ) (t : ℕ × ℕ × ℕ) (ts : List (ℕ × ℕ × ℕ)) → greatest_among k (t ∷ ts) ≡ with_entry (t.1 == k) t.2 (greatest_among k ts)
greatest_among-cons k t ts =
    elim (t.1 == k) as (λ here. reduce max (map (λ t. t.2) (cond here (t ∷ filter (λ t. t.1 == k) ts) (filter (λ t. t.1 == k) ts))) ≡ with_entry here t.2 (greatest_among k ts)) [
      | true ↦ reduce-max t.2 (map (λ t. t.2) (filter (λ t. t.1 == k) ts))
      | false ↦ refl
    ]

-- the copies that entries with no value list
abbrev copies_in : List ((ℕ × ℕ × ℕ) × Unit {0}) → List (ℕ × ℕ × ℕ)
copies_in es = map (λ e. e.0) es

greatest_among-put : (k : ℕ) (t : ℕ × ℕ × ℕ) (es : List ((ℕ × ℕ × ℕ) × Unit {0})) → greatest_among k (copies_in (put triple_cmp t tt es)) ≡ with_entry (t.1 == k) t.2 (greatest_among k (copies_in es))
greatest_among-put k t [] = greatest_among-cons k t []
greatest_among-put k t (e ∷ es) =
    elim (triple_cmp t e.0) as (λ r. triple_cmp t e.0 ≡ r
    → greatest_among k (copies_in (by_order r ((t, tt) ∷ e ∷ es) ((e.0, tt) ∷ es) (e ∷ put triple_cmp t tt es))) ≡ with_entry (t.1 == k) t.2 (greatest_among k (copies_in (e ∷ es)))) [
      | Less ↦ λ _. greatest_among-cons k t (copies_in (e ∷ es))
      | Equal ↦ λ tie.
          let same : t ≡ e.0 = triple_exact t e.0 tie in
          let here = greatest_among-cons k e.0 (copies_in es) in
          here
          ∙ with_entry-twice (e.0.1 == k) e.0.2 (greatest_among k (copies_in es))
          ∙ ap (λ (x : ℕ × ℕ × ℕ). with_entry (x.1 == k) x.2 (with_entry (e.0.1 == k) e.0.2 (greatest_among k (copies_in es)))) (sym same)
          ∙ ap (with_entry (t.1 == k) t.2) (sym here)
      | Greater ↦ λ _.
          greatest_among-cons k e.0 (copies_in (put triple_cmp t tt es))
          ∙ ap (with_entry (e.0.1 == k) e.0.2) (greatest_among-put k t es)
          ∙ with_entry-turned (e.0.1 == k) (t.1 == k) e.0.2 t.2 (greatest_among k (copies_in es))
          ∙ ap (with_entry (t.1 == k) t.2) (sym (greatest_among-cons k e.0 (copies_in es)))
    ] refl

-- after one copy is added, its ledger's greatest entry is the greater of that and its own, and those of other ledgers stay
pub greatest_held-insert : (contents : Contents) (w l x k : ℕ)
    → greatest_held (set.insert contents (w, l, x)) k ≡ cond (l == k) (Some (option_map_or (λ greatest. max greatest x) (greatest_held contents k) x)) (greatest_held contents k)
unfolding insert items
greatest_held-insert contents w l x k = greatest_among-put k (w, l, x) contents.list

-- there is a greatest entry, and it is no less than this one
pub record IsReached (greatest : Option ℕ) (e : ℕ) : Type 0 where
  pub value : ℕ
  pub is : greatest ≡ Some value
  pub reached : e ≤ value

reached_here : (e : ℕ) (greatest : Option ℕ) → IsReached (with_entry true e greatest) e
reached_here e None = record { value = e; is = refl; reached = omega arith }
reached_here e (Some m) = record { value = max m e; is = refl; reached = omega arith }

reached_later : (here : Bool) (d e : ℕ) (greatest : Option ℕ) → IsReached greatest e → IsReached (with_entry here d greatest) e
reached_later true d e greatest was = record { value = max was.value d; is = ap (with_entry true d) was.is; reached = omega (arith, was.reached) }
reached_later false d e greatest was = was

reached_among : (q : ℕ × ℕ × ℕ) (ts : List (ℕ × ℕ × ℕ)) → list_any (eq_by_cmp triple_cmp q) ts ≡ true → IsReached (greatest_among q.1 ts) q.2
reached_among q [] found = cc
reached_among q (t ∷ ts) found =
    subst (λ (greatest : Option ℕ). IsReached greatest q.2) (sym (greatest_among-cons q.1 t ts))
    (elim (eq_by_cmp triple_cmp q t) as (λ b. eq_by_cmp triple_cmp q t ≡ b → (b || list_any (eq_by_cmp triple_cmp q) ts) ≡ true → IsReached (with_entry (t.1 == q.1) t.2 (greatest_among q.1 ts)) q.2) [
      | true ↦ λ tied _.
          let same : q ≡ t = triple_exact q t ((Equal-is (triple_cmp q t)).0 tied) in
          let here : (t.1 == q.1) ≡ true = ap (λ (x : ℕ × ℕ × ℕ). t.1 == x.1) same ∙ grind (arith, nat_tests) in
          subst (λ b. IsReached (with_entry b t.2 (greatest_among q.1 ts)) q.2) (sym here)
          (subst (λ (x : ℕ × ℕ × ℕ). IsReached (with_entry true t.2 (greatest_among q.1 ts)) x.2) (sym same) (reached_here t.2 (greatest_among q.1 ts)))
      | false ↦ λ _ later. reached_later (t.1 == q.1) t.2 q.2 (greatest_among q.1 ts) (reached_among q ts later)
    ] refl found)

-- an entry that is held is no greater than the greatest
pub greatest_held-reached : (contents : Contents) (l e : ℕ) → IsHeld contents l e → IsReached (greatest_held contents l) e
greatest_held-reached contents l e held = reached_among (held.0, l, e) (items contents) (sym (contains-items contents (held.0, l, e)) ∙ held.1)

-- a bookie has the copy of this entry
abbrev IsAmong : ℕ → ℕ → List (ℕ × ℕ × ℕ) → Type 0
IsAmong l e ts = (bookie : ℕ) × (list_any (eq_by_cmp triple_cmp (bookie, l, e)) ts ≡ true)

among_later : (l e : ℕ) (t : ℕ × ℕ × ℕ) (ts : List (ℕ × ℕ × ℕ)) → IsAmong l e ts → IsAmong l e (t ∷ ts)
among_later l e t ts was = (was.0, or_true (eq_by_cmp triple_cmp (was.0, l, e) t) _ was.1)

among_here : (l e : ℕ) (t : ℕ × ℕ × ℕ) (ts : List (ℕ × ℕ × ℕ)) → t.1 ≡ l → t.2 ≡ e → IsAmong l e (t ∷ ts)
among_here l e t ts ledger entry =
    let bookie : nat_eq t.0 t.0 ≡ true = grind (arith, nat_tests) in
    let ledger : nat_eq l t.1 ≡ true = grind (arith, nat_tests) in
    let entry : nat_eq e t.2 ≡ true = grind (arith, nat_tests) in
    (t.0, ap (λ b. b || list_any (eq_by_cmp triple_cmp (t.0, l, e)) ts) (triples_tied (t.0, l, e) t ∙ (λ i. (bookie i && ledger i) && entry i)))

newest_among : (l e : ℕ) (t : ℕ × ℕ × ℕ) (ts : List (ℕ × ℕ × ℕ)) (greatest : Option ℕ) → (greatest ≡ Some e → IsAmong l e ts) → t.1 ≡ l → with_entry true t.2 greatest ≡ Some e → IsAmong l e (t ∷ ts)
newest_among l e t ts None earlier own newest = among_here l e t ts own (cc)
newest_among l e t ts (Some m) earlier own newest =
    let highest : max m t.2 ≡ e = cc in
    elim (cases_lt m t.2) [
      | inl lower ↦ among_here l e t ts own (omega (arith, highest, lower))
      | inr higher ↦ let same : m ≡ e = omega (arith, highest, higher) in among_later l e t ts (earlier (ap Some same))
    ]

greatest_among-held : (l e : ℕ) (ts : List (ℕ × ℕ × ℕ)) → greatest_among l ts ≡ Some e → IsAmong l e ts
greatest_among-held l e [] is = cc
greatest_among-held l e (t ∷ ts) is =
    elim (t.1 == l) as (λ own. (t.1 == l) ≡ own → with_entry own t.2 (greatest_among l ts) ≡ Some e → IsAmong l e (t ∷ ts)) [
      | true ↦ λ own newest. newest_among l e t ts (greatest_among l ts) (greatest_among-held l e ts) (grind (arith, nat_tests, own)) newest
      | false ↦ λ _ later. among_later l e t ts (greatest_among-held l e ts later)
    ] refl (sym (greatest_among-cons l t ts) ∙ is)

-- the greatest entry is held
pub greatest_held-held : (contents : Contents) (l e : ℕ) → greatest_held contents l ≡ Some e → IsHeld contents l e
greatest_held-held contents l e is =
    let among = greatest_among-held l e (items contents) is in
    (among.0, contains-items contents (among.0, l, e) ∙ among.1)

-- What holds of copies

-- what holds of each copy holds of one that is there
pub All-copy : (P : ℕ × ℕ × ℕ → Type 0) (contents : Contents) → All P (items contents) → (t : ℕ × ℕ × ℕ) → set.contains contents t ≡ true → P t
All-copy P contents all t one = found_in (items contents) all (sym (contains-items contents t) ∙ one) where
  found_in : (ts : List (ℕ × ℕ × ℕ)) → All P ts → list_any (eq_by_cmp triple_cmp t) ts ≡ true → P t
  found_in [] all found = cc
  found_in (u ∷ ts) all found =
      elim (eq_by_cmp triple_cmp t u) as (λ b. eq_by_cmp triple_cmp t u ≡ b → (b || list_any (eq_by_cmp triple_cmp t) ts) ≡ true → P t) [
        | true ↦ λ tied _. subst P (sym (triple_exact t u ((Equal-is (triple_cmp t u)).0 tied))) (All-head P u ts all)
        | false ↦ λ _ later. found_in ts (All-tail P u ts all) later
      ] refl found

-- How many entries a bookie holds

count_by-put : (p : ℕ × ℕ × ℕ → Bool) (t : ℕ × ℕ × ℕ) (es : List ((ℕ × ℕ × ℕ) × Unit {0})) → list_any (eq_by_cmp triple_cmp t) (copies_in es) ≡ false
    → count_by p (copies_in (put triple_cmp t tt es)) ≡ cond (p t) 1 0 + count_by p (copies_in es)
count_by-put p t [] new = sum_by-cons (λ x. cond (p x) 1 0) t []
count_by-put p t (e ∷ es) new =
    let one_more = λ (x : ℕ × ℕ × ℕ) (xs : List (ℕ × ℕ × ℕ)). sum_by-cons (λ y. cond (p y) 1 0) x xs in
    elim (triple_cmp t e.0) as (λ r. (is_eq r || list_any (eq_by_cmp triple_cmp t) (copies_in es)) ≡ false
    → count_by p (copies_in (by_order r ((t, tt) ∷ e ∷ es) ((e.0, tt) ∷ es) (e ∷ put triple_cmp t tt es))) ≡ cond (p t) 1 0 + count_by p (copies_in (e ∷ es))) [
      | Less ↦ λ _. one_more t (copies_in (e ∷ es))
      | Equal ↦ λ (held : true ≡ false). cc
      | Greater ↦ λ new. omega (arith, count_by-put p t es new, one_more e.0 (copies_in (put triple_cmp t tt es)), one_more e.0 (copies_in es))
    ] new

-- after a copy is added that was not held, its bookie holds one more, and others as many as before
pub count_held-insert_new : (contents : Contents) (w l x b : ℕ) → has contents w l x ≡ false → count_held (set.insert contents (w, l, x)) b ≡ cond (w == b) 1 0 + count_held contents b
unfolding insert items
count_held-insert_new contents w l x b new = count_by-put (λ t. t.0 == b) (w, l, x) contents.list (sym (contains-items contents (w, l, x)) ∙ new)
