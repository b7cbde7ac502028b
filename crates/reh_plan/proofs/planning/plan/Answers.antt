-- What the steps come to, with the comments at the end.
use Rattle.std.proofs.Common.{◌≡◌, ◌∙◌, List, Some, length, ap, subst}
use Rattle.reh_types.specs.Sets as set
use Rattle.reh_model.specs.Book.{new_book}
use Rattle.reh_model.specs.Cluster.{Cluster}
use Rattle.reh_model.specs.Session.{replay, opened_session}
use Rattle.reh_transcript.specs.Transcript.{starting, transcript}
use Rattle.reh_plan.specs.Plans.{Asks, Draft}
use Rattle.reh_plan.specs.Racks.{fewer_racks}
use Rattle.reh_plan.specs.Replies.{ok_answers}
use Rattle.reh_plan.specs.declared.fewer.FewerRacks.{FewerRacks}
use Rattle.reh_plan.specs.declared.reasons.Left.{Left}
use Rattle.reh_plan.specs.Takers.{AreWellTaken}
use Rattle.reh_plan.specs.Workers.{Rules, may_work, rules_by}
use Rattle.reh_plan.proofs.FilledLaws.{filled_by}
use Rattle.reh_plan.proofs.PlannedLaws.{IsTold, left-counted, told-alone}
use Rattle.reh_plan.proofs.planning.plan.Goals as goal

pub returns : goal.returns
returns c =
    let s : Cluster = c.args.state in
    let rules : Rules = rules_by c.args.allowed.now c.args.read_only.now c.args.writers_roll in
    let n : Draft = c.play_and_tell.new.plan in
    let left : List Left = c.in_ok-told.told.left.items in
    let fewer : List FewerRacks = c.in_ok-told.told.fewer.items in
    let told : IsTold s c.args.lost.now rules left fewer n =
    told-alone s c.args.lost.now rules c.in_ok-plan.plan c.in_ok-told.ensures.played.0 n left fewer c.in_ok-plan.ensures
    c.in_ok-told.ensures.played.1 c.in_ok-told.ensures.played.2 in
    let accepted : replay s n.events ≡ Some n.state =
    subst (λ (o : Cluster). replay o n.events ≡ Some n.state) told.opening c.text-checked.ensures.accepted in
    record {
      opening = told.opening;
      asks = subst (λ (o : Cluster). Asks o.names n.lines n.events) told.opening c.text-checked.ensures.asks;
      accepted = accepted;
      replies =
          subst
          (λ (o : Cluster).
          transcript o.names 0 (starting (new_book (opened_session o))) 1 n.lines ≡ ok_answers o.names 1 n.lines)
          told.opening c.text-checked.ensures.replies;
      lost = told.without;
      order = told.order;
      filled =
          filled_by rules s n.state (set.contains c.args.lost.now) (length s.names) n.events told.order accepted;
      places =
          subst (λ (o : Cluster). AreWellTaken (may_work rules) c.args.racks.now o n.events) told.opening
          c.in_ok-told.ensures.taken;
      named = told.named;
      racks =
          c.in_ok-told.ensures.racks
          ∙ ap (λ (d : Draft). fewer_racks c.args.racks.now d.state n.state) c.in_ok-plan.ensures;
      told = told.told;
      only = told.only;
      left = told.left;
      counted = c.in_ok-told.ensures.sum.left ∙ left-counted n.state left told.left.of;
      ends = told.ends;
      harmless = told.harmless;
      needed = told.needed;
      sum = c.in_ok-told.ensures.sum;
    }
