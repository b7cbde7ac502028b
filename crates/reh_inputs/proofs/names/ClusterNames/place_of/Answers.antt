-- The names that come before it stand before the others.
use Rattle.std.proofs.Common.{◌≡◌, ◌∙◌, Bool, true, false, List, ℕ, String, string_bytes, map, sym, ap, subst, rules}
use Rattle.std.specs.Ordering.{is_lt}
use Rattle.std.specs.List.Sorted.{IsPartitionPoint}
use Rattle.std.proofs.lemmas.List.Sorted.{IsPartitionPoint-from_clause}
use Rattle.std.specs.declared.alloc.Global.{Global}
use Rattle.reh_census.specs.Order.{InOrder, names_cmp}
use Rattle.reh_cluster.proofs.NamesLemmas.{prefix_len-map}
use Rattle.reh_inputs.specs.Names.{place_of}
use Rattle.reh_inputs.proofs.NameOrder.{IsPartitioned-in_order, point-prefix}
use Rattle.reh_inputs.proofs.names.ClusterNames.place_of.Goals as goal

pub returns-clause-place : goal.returns-clause-place
returns-clause-place c =
    let name = c.args.name.now in
    let own = c.deref.result.now in
    let before : String Global → Bool = λ s. is_lt (names_cmp (string_bytes s) name) in
    let same : map string_bytes own ≡ c.args.self.now = ap (map string_bytes) c.deref.ensures.value ∙ c.self.view_is in
    let order : InOrder names_cmp (map string_bytes own) =
    subst (λ (xs : List (String Global)). InOrder names_cmp (map string_bytes xs)) (sym c.deref.ensures.value) c.self.invariant.order in
    let point : IsPartitionPoint (λ s. before s ≡ true) (λ s. before s ≡ false) own c.partition_point.result =
    IsPartitionPoint-from_clause before own c.partition_point.result c.partition_point.ensures.partitioned
    (IsPartitioned-in_order name string_bytes own order) (λ a r f called. search rules) in
    sym (point-prefix before own c.partition_point.result c.partition_point.ensures.bound point)
    ∙ sym (prefix_len-map string_bytes (λ other. is_lt (names_cmp other name)) own)
    ∙ ap (λ (names : List (List ℕ)). place_of names name) same
