-- With no table nothing is held.
use Rattle.std.proofs.Common.{◌≡◌, ap, sym, subst, ◌∙◌, List, ℕ, arith}
use Rattle.reh_types.proofs.SetLaws.{from_list-nil}
use Rattle.reh_types.specs.Sets.{triples}
use Rattle.std.specs.Option.{IfSome}
use Rattle.std.specs.Ordering.{nat_cmp}
use Rattle.std.specs.FinMap as finite
use Rattle.reh_held.specs.Tables.{TableValue, IsTable}
use Rattle.reh_held.specs.Kept.{table_at, contents_of, words_of}
use Rattle.reh_held.proofs.held.Held.new.Goals as goal

pub returns-clause-contents : goal.returns-clause-contents
returns-clause-contents c =
    ap (λ (tables : List (ℕ × TableValue)). contents_of tables) c.new.ensures.empty ∙ from_list-nil triples

pub invariant_of-result : goal.invariant_of-result
invariant_of-result c =
    let none : finite.len (words_of c.new.result.entries) ≡ 0 =
    ap (λ (tables : List (ℕ × TableValue)). finite.len (words_of tables)) c.new.ensures.empty
    ∙ finite.len-empty nat_cmp ℕ in
    record {
      few = omega (arith, none);
      tables =
          λ ledger.
          subst (λ (tables : List (ℕ × TableValue)). IfSome (table_at tables ledger) (IsTable c.args.bookies))
          (sym c.new.ensures.empty) tt;
    }

pub returns-clause-few : goal.returns-clause-few
returns-clause-few c =
    ap (λ (tables : List (ℕ × TableValue)). finite.len (words_of tables)) c.new.ensures.empty
    ∙ finite.len-empty nat_cmp ℕ
