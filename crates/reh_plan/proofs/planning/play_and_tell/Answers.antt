-- The steps leave the cluster on which the plan begins, and are what comes before the comments.
use Rattle.std.proofs.Common.{◌≡◌, ◌∙◌, List, ap, subst, sym}
use Rattle.reh_model.specs.Metadata.{Metadata}
use Rattle.reh_plan.specs.Plans.{Draft}
use Rattle.reh_plan.specs.Racks.{fewer_among, metadata_of}
use Rattle.reh_plan.specs.Summaries.{holdings_of}
use Rattle.reh_plan.specs.Takers.{AreWellTaken}
use Rattle.reh_plan.specs.Workers.{Rules, may_work, rules_by}
use Rattle.reh_plan.proofs.PlannedLaws.{tells_opening}
use Rattle.reh_plan.proofs.planning.play_and_tell.Goals as goal

pub tell_racks-requires-clause-held : goal.tell_racks-requires-clause-held
tell_racks-requires-clause-held c =
    c.deref-2.ensures.value
    ∙ c.in_ok-held.ensures.held
    ∙ ap holdings_of
    (c.state.ensures ∙ c.requires.begins
    ∙ sym (tells_opening _ _ _ _ c.in_ok-left.ensures.played.repaired.tells ∙ c.in_ok-left.ensures.played.repaired.works.opening
    ∙ c.in_ok-left.ensures.played.loses.opening))

pub returns-clause-racks : goal.returns-clause-racks
returns-clause-racks c =
    let before : c.deref.result.now ≡ metadata_of c.args.plan.now.state =
    c.deref.ensures.value ∙ c.in_ok-before.ensures ∙ ap metadata_of c.state-2.ensures in
    c.in_ok-fewer.ensures.racks
    ∙ ap (λ (ms : List Metadata). fewer_among c.args.racks.now ms c.tell_racks.new.plan.state.parts.ledgers) before

pub returns-clause-played : goal.returns-clause-played
returns-clause-played c = (c.play.new.plan, c.in_ok-left.ensures.played, c.in_ok-fewer.ensures.told)

pub returns-clause-taken : goal.returns-clause-taken
returns-clause-taken c =
    let rules : Rules = rules_by c.args.allowed.now c.args.read_only.now c.args.writers_roll in
    subst (λ (d : Draft). AreWellTaken (may_work rules) c.args.racks.now d.opening d.events) (sym c.in_ok-fewer.ensures.told)
    c.in_ok-left.ensures.taken
