-- What the steps come to.
use Rattle.std.proofs.Common.{◌≡◌, ◌∙◌, ◌++◌, Bool, List, ap, map, subst, sym}
use Rattle.std.specs.Prelude.{All}
use Rattle.reh_model.specs.Cluster.{Cluster}
use Rattle.reh_plan.specs.Plans.{Draft, IsLeftFor, comment_of, left_ids, with_full}
use Rattle.reh_plan.specs.declared.reasons.Left.{Left}
use Rattle.reh_plan.proofs.PlannedLaws.{full_state}
use Rattle.reh_plan.proofs.planning.tell_all.Goals as goal

pub returns : goal.returns
returns c =
    let full : Bool = c.in_ok-full.full in
    let d : Draft = with_full full c.args.plan.now in
    let left : List Left = c.in_ok-left.left.items in
    let same : c.state.result.now ≡ d.state = c.state.ensures ∙ sym (full_state full c.args.plan.now) in
    record {
      full = full;
      cut_off = c.in_ok-full.ensures.full;
      through = c.in_ok-full.ensures.through;
      naming = record {
        told =
            c.in_ok-leave_all.ensures
            ∙ ap (λ (x : Draft). record x { lines = x.lines ++ map comment_of c.deref.result.now }) c.in_ok-tell_full.ensures
            ∙ ap (λ (ls : List Left). record d { lines = d.lines ++ map comment_of ls }) c.deref.ensures.value;
        of = c.in_ok-left.ensures.of ∙ ap (λ (t : Cluster). left_ids t t.parts.ledgers) same;
        why =
            subst (λ (t : Cluster). All (IsLeftFor c.args.workers.now.rules full t t.parts.ledgers) left) same
            c.in_ok-left.ensures.why;
      };
    }
