-- The comments change nothing else.
use Rattle.std.proofs.Common.{◌∙◌, ◌++◌, List, ap, map, sym}
use Rattle.reh_plan.specs.Plans.{Draft}
use Rattle.reh_plan.specs.Racks.{fewer_among, racks_line}
use Rattle.reh_plan.specs.Summaries.{holdings_of}
use Rattle.reh_model.specs.Cluster.{Cluster}
use Rattle.reh_plan.specs.declared.fewer.FewerRacks.{FewerRacks}
use Rattle.reh_plan.proofs.planning.tell_racks.Goals as goal

pub summary_of-requires-clause-held : goal.summary_of-requires-clause-held
summary_of-requires-clause-held c =
    c.requires.held ∙ ap (λ (d : Draft). holdings_of d.opening) (sym c.in_ok-tell.ensures)

pub returns-clause-racks : goal.returns-clause-racks
returns-clause-racks c =
    c.in_ok-fewer.ensures
    ∙ ap (λ (s : Cluster). fewer_among c.args.racks.now c.args.before.now s.parts.ledgers)
    (c.state.ensures ∙ sym (ap (λ (d : Draft). d.state) c.in_ok-tell.ensures))

pub returns-clause-told : goal.returns-clause-told
returns-clause-told c =
    c.in_ok-tell.ensures
    ∙ ap (λ (found : List FewerRacks). record c.args.plan.now { lines = c.args.plan.now.lines ++ map racks_line found })
    c.deref.ensures.value
