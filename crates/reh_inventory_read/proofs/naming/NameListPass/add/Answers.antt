-- The names of one line more were added.
use Rattle.std.proofs.Common.{◌∷◌, [], ap, subst}
use Rattle.reh_inventory_read.specs.Named.{IsParsed}
use Rattle.reh_inventory_read.proofs.naming.NameListPass.add.Goals as goal

pub returns-in_ok-number_line-in-Ok : goal.returns-in_ok-number_line-in-Ok
returns-in_ok-number_line-in-Ok c = λ bytes parsed. record {
  said = c.in-Ok.line ∷ [];
  are_read = ap (λ one. one ∷ []) (subst (λ said. IsParsed bytes said) c.in-Ok.is parsed);
  names = c.in_ok-number_line-in-Ok.ensures;
}
