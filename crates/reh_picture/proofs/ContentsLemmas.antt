-- One range more, and the set of items that are added one after another or at once.
use Rattle.std.proofs.Common.{◌≡◌, ◌+◌, ◌<◌, Bool, true, false, ◌||◌, List, [], ◌∷◌, ◌++◌, length, fold, Option, None}
use Rattle.std.proofs.Common.{Some, refl, sym, ap, ◌∙◌, arith}
use Rattle.std.proofs.Math.Bool.{or-false}
use Rattle.std.specs.List.{last_or, list_any}
use Rattle.std.specs.Option.{option_map_or}
use Rattle.std.specs.Ordering.{eq_by_cmp}
use Rattle.reh_types.specs.Sets.{Order, Set, contains, insert, union, empty, from_list, contains-insert, contains-union}
use Rattle.reh_types.specs.Sets.{contains-empty, contains-from_list, same_set}
use Rattle.serde_json.specs.Data.{Data}
use Rattle.reh_picture.specs.Contents.{two_numbers, ends_of, next_after}

last_or-push : {A : Type 0} (o : Option A) (xs : List A) (x : A) → last_or o (xs ++ x ∷ []) ≡ Some x
last_or-push o [] x = refl
last_or-push o (y ∷ xs) x = last_or-push (Some y) xs x

-- a range may begin past the one before it
pub next_after-push : (ds : List Data) (d : Data) → next_after (ds ++ d ∷ []) ≡ (ends_of d).1 + 1
next_after-push ds d = ap (λ last. option_map_or (λ e. (ends_of e).1 + 1) last 0) (last_or-push None ds d)

-- a list of fewer than two
pub two_numbers-short : (ds : List Data) → length ds < 2 → None ≡ two_numbers ds
two_numbers-short [] few = refl
two_numbers-short (a ∷ []) few = refl
two_numbers-short (a ∷ b ∷ ds) few = absurd (omega arith)

or_moved : (a b c : Bool) → (a || (b || c)) ≡ ((b || a) || c)
or_moved true true c = refl
or_moved true false c = refl
or_moved false true c = refl
or_moved false false c = refl

or_swapped : (a b : Bool) → (a || b) ≡ (b || a)
or_swapped true true = refl
or_swapped true false = refl
or_swapped false true = refl
or_swapped false false = refl

-- adding the items of a list one after another makes the set of all
module _ {K : Type 0} (o : Order K) where
  contains-fold : (s : Set o) (ks : List K) (q : K)
      → contains (fold insert s ks) q ≡ (list_any (eq_by_cmp o.cmp q) ks || contains s q)
  contains-fold s [] q = refl
  contains-fold s (k ∷ ks) q =
      contains-fold (insert s k) ks q ∙ ap (λ b. list_any (eq_by_cmp o.cmp q) ks || b) (contains-insert s k q)
      ∙ or_moved (list_any (eq_by_cmp o.cmp q) ks) (eq_by_cmp o.cmp q k) (contains s q)

  -- adding the set of them at once comes to the same
  pub union-from_list : (s : Set o) (ks : List K) → union s (from_list ks) ≡ fold insert s ks
  union-from_list s ks =
      same_set _ _ (λ q.
      contains-union s (from_list ks) q ∙ ap (λ b. contains s q || b) (contains-from_list o ks q)
      ∙ or_swapped (contains s q) (list_any (eq_by_cmp o.cmp q) ks) ∙ sym (contains-fold s ks q))

  pub from_list-fold : (ks : List K) → fold insert (empty {o = o}) ks ≡ from_list ks
  from_list-fold ks =
      same_set _ _
      (λ q. contains-fold empty ks q ∙ ap (λ b. list_any (eq_by_cmp o.cmp q) ks || b) (contains-empty o q) ∙ or-false _
      ∙ sym (contains-from_list o ks q))
