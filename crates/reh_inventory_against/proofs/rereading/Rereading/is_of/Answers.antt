-- All lines came.
use Rattle.std.proofs.Common.{◌∙◌, sym}
use Rattle.std.proofs.lemmas.Bool.Decides.{Decides-eqb}
use Rattle.std.proofs.lemmas.Slice.Eq.{slice_eq-Decides}
use Rattle.reh_inventory_against.proofs.RereadLaws.{weighed-all}
use Rattle.reh_inventory_against.proofs.rereading.Rereading.is_of.Goals as goal

pub returns : goal.returns
returns c = λ same stop names strict before ledgers first lines worst was.
    weighed-all stop names strict c.args.ids.now before ledgers first lines c.args.self.now worst
    (sym c.ids.ensures ∙ (slice_eq-Decides Decides-eqb c.ids.result.now c.args.ids.now c.eq.result c.eq.ensures).0 same) was
