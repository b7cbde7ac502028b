-- The same names in another order.
use Rattle.std.proofs.Common.{ℕ, List, Bor, ap, map, subst, sym, ◌∙◌, IsPermutation, IsSorted}
use Rattle.std.proofs.lemmas.List.Sorted.{IsPermutation-map}
use Rattle.std.specs.Cmp.Lexicographic.{slice_cmp}
use Rattle.std.specs.List.{IsDistinct}
use Rattle.std.specs.Ordering.{nat_cmp}
use Rattle.std.specs.Str.{bytes_eq}
use Rattle.reh_inventory_census.proofs.OrderLemmas.{distinct-permuted, sorted-names}
use Rattle.reh_inventory_census.proofs.orders.in_order.Goals as goal

pub list_of-requires-clause-different : goal.list_of-requires-clause-different
list_of-requires-clause-different c =
    subst (λ (l : List (Bor (List ℕ))). IsDistinct bytes_eq (map (λ text. text.now) l)) (sym c.deref.ensures.value)
    (distinct-permuted c.in_ok-texts.texts.items c.sort.new.self.items c.sort.ensures.permutation c.in_ok-texts.ensures.different)

pub returns-clause-same : goal.returns-clause-same
returns-clause-same c =
    subst (λ (l : List (List ℕ)). IsPermutation c.args.names.now l)
    (sym (c.in_ok-ordered.ensures ∙ ap (map (λ text. text.now)) c.deref.ensures.value))
    (subst (λ (l : List (List ℕ)). IsPermutation l (map (λ text. text.now) c.sort.new.self.items)) c.in_ok-texts.ensures.same
    (IsPermutation-map (λ text. text.now) c.in_ok-texts.texts.items c.sort.new.self.items c.sort.ensures.permutation))

pub returns-clause-ordered : goal.returns-clause-ordered
returns-clause-ordered c =
    subst (λ (l : List (List ℕ)). IsSorted (slice_cmp nat_cmp) l)
    (sym (c.in_ok-ordered.ensures ∙ ap (map (λ text. text.now)) c.deref.ensures.value))
    (sorted-names c.sort.new.self.items c.in_ok-sort.ensures.sorted)
