-- There are none.
use Rattle.std.proofs.Common.{[], List, map, refl, sym, subst, arith}
use Rattle.std.specs.Prelude.{All}
use Rattle.reh_against.specs.declared.kept.Kept.{Kept}
use Rattle.reh_against.specs.Weighed.{IsAmong, found_of}
use Rattle.reh_against.specs.Worst.{AreWorst}
use Rattle.reh_against.proofs.WorstLaws.{none-worst}
use Rattle.reh_against.proofs.worst.Worst.new.Goals as goal

pub returns : goal.returns
returns c = λ bookies question stopped answer. record {
  each = refl;
  added = refl;
  chosen = subst (λ (kept : List Kept). AreWorst [] (map found_of kept)) (sym c.new.ensures.items) none-worst;
  among =
      let none : All (IsAmong []) [] = λ k d never. absurd (omega (arith, never)) in
      subst (λ (kept : List Kept). All (IsAmong []) kept) (sym c.new.ensures.items) none;
}
