-- The name comes into the order of the others.
use Rattle.std.proofs.Common.{◌≡◌, ◌∙◌, ◌≤◌, List, ℕ, string_bytes, map, length, sym, ap, subst, arith}
use Rattle.std.specs.List.{insert}
use Rattle.std.specs.Ordering.{is_lt}
use Rattle.std.proofs.lemmas.List.{length-map}
use Rattle.std.proofs.lemmas.List.Edits.{length-insert}
use Rattle.std.proofs.lemmas.List.Sums.{prefix_len-le-length}
use Rattle.reh_census.specs.Order.{InOrder, names_cmp}
use Rattle.reh_inputs.specs.Names.{place_of}
use Rattle.reh_inputs.proofs.NameOrder.{InOrder-insert, insert-map}
use Rattle.reh_inputs.proofs.names.ClusterNames.insert.Goals as goal

pub insert-requires : goal.insert-requires
insert-requires c =
    let names = c.self.inside.names.items in
    omega (
      arith,
      c.requires.place,
      prefix_len-le-length (λ other. is_lt (names_cmp other c.args.name.now)) c.args.self.now,
      ap length c.self.view_is,
      length-map names string_bytes,
      c.self.inside.names.ok,
    )

pub returns-clause-added : goal.returns-clause-added
returns-clause-added c =
    ap (map string_bytes) c.in_ok-insert.ensures.items
    ∙ insert-map string_bytes c.self.inside.names.items c.args.place c.in_ok-owned.owned
    ∙ (λ i. insert (c.self.view_is i) c.args.place (c.in_ok-owned.ensures.ok i))

pub invariant_of-self-2 : goal.invariant_of-self-2
invariant_of-self-2 c =
    let before = c.args.self.now in
    let name = c.args.name.now in
    let is : map string_bytes c.insert.new.self.items ≡ insert before (place_of before name) name =
    ap (map string_bytes) c.in_ok-insert.ensures.items
    ∙ insert-map string_bytes c.self.inside.names.items c.args.place c.in_ok-owned.owned
    ∙ (λ i. insert (c.self.view_is i) (c.requires.place i) (c.in_ok-owned.ensures.ok i)) in
    let order : InOrder names_cmp before =
    subst (λ (names : List (List ℕ)). InOrder names_cmp names) c.self.view_is c.self.invariant.order in
    let within : place_of before name ≤ length before = prefix_len-le-length (λ other. is_lt (names_cmp other name)) before in
    record {
      few = omega (arith, ap length is, length-insert before (place_of before name) name within, c.requires.few);
      order = subst (λ (names : List (List ℕ)). InOrder names_cmp names) (sym is) (InOrder-insert name before order c.requires.new);
    }
