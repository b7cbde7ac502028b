-- One line more came.
use Rattle.std.proofs.Common.{◌++◌, ◌∷◌, []}
use Rattle.rehearse.proofs.cuts.choose_line.Goals as goal

pub returns-in-Ok : goal.returns-in-Ok
returns-in-Ok c = λ ids was. record {
  lines = was.lines ++ c.args.line.now ∷ [];
  are_chosen = c.in-Ok.ensures ids was.lines was.are_chosen;
}
