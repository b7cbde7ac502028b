-- A copy has the rows that go with its ledgers, as the parts have.
use Rattle.std.proofs.Common.{◌≡◌, ◌≤◌, sym, subst, List}
use Rattle.std.proofs.lemmas.List.Elements.{same_from_all_zip}
use Rattle.reh_types.specs.declared.limits.TheConstants.{MAX_BOOKIES}
use Rattle.reh_held.specs.Values.{HeldValue}
use Rattle.reh_model.specs.Cluster.{Ledger}
use Rattle.reh_cluster.specs.Parts.{HasRows}
use Rattle.reh_cluster.proofs.parts.Parts.clone_in.Goals as goal

pub invariant_of-result : goal.invariant_of-result
invariant_of-result c =
    let was : HeldValue = c.self.inside.held in
    let held : c.in_ok-clone_in.field-0 ≡ was = c.in_ok-clone_in.ensures in
    let ledgers : c.in_ok-clone-2.field-0.items ≡ c.self.inside.ledgers.items =
    same_from_all_zip _ _ _ c.in_ok-clone-2.ensures.cases.0 (λ x y is. is) in
    record {
      few = subst (λ (h : HeldValue). h.bookies ≤ MAX_BOOKIES) (sym held) c.self.invariant.few;
      rows =
          subst (λ (h : HeldValue). HasRows h.bookies c.in_ok-clone-2.field-0.items h) (sym held)
          (subst (λ (gs : List Ledger). HasRows was.bookies gs was) (sym ledgers) c.self.invariant.rows);
    }
