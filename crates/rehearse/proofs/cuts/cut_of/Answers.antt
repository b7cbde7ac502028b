-- The picture of the ledgers that were chosen.
use Rattle.std.proofs.Common.{List, ℕ, string_bytes, subst}
use Rattle.reh_cut.specs.Chosen.{IsCutOf}
use Rattle.reh_cut.specs.declared.said.Assume.{Assume}
use Rattle.rehearse.specs.Cuts.{IsChoosing}
use Rattle.rehearse.proofs.cuts.cut_of.Goals as goal

pub returns-in-Ok : goal.returns-in-Ok
returns-in-Ok c =
    let ids = c.args.words.now.ledgers.items in
    let P : List ℕ → Type 0 = λ ids. IsChoosing ids c.in_ok-chosen.chosen in
    let chosen : IsChoosing ids c.in_ok-chosen.chosen = subst P c.deref.ensures.value c.in_ok-chosen.ensures in
    let Q : Assume → Type 0 = λ assume. IsCutOf ids chosen.lines assume c.args.words.now.window (string_bytes c.in-Ok.text) in
    record {
      lines = chosen.lines;
      cut = subst Q c.assumed.ensures (c.in-Ok.ensures.cut ids chosen.lines chosen.are_chosen);
    }
