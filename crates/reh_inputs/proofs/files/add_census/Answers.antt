-- What a census counts has well-formed tails, by other numbers, too.
use Rattle.std.proofs.Common.{All, List, subst, sym}
use Rattle.std.proofs.lemmas.Result.{on_ok_weaker}
use Rattle.reh_census.specs.declared.censuses.CountedTail.{CountedTail}
use Rattle.reh_census.specs.Tails.{IsTail}
use Rattle.reh_inputs.proofs.TailLaws.{IsTail-added}
use Rattle.reh_inputs.proofs.files.add_census.Goals as goal

pub returns-clause-well_formed : goal.returns-clause-well_formed
returns-clause-well_formed c =
    on_ok_weaker c.add_ensembles.result
    (λ added. λ all.
    subst (λ (tails : List CountedTail). All (λ (t : CountedTail). IsTail t.tail) tails) (sym c.in_ok-add_tails.ensures)
    (IsTail-added c.deref-2.result.now c.args.counts.now.tails.items c.tails.result.now all c.tails.ensures.well_formed))
    c.add_ensembles.ensures
