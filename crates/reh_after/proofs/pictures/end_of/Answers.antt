-- The picture is that of the state at the end.
use Rattle.std.proofs.Common.{◌≡◌, ◌∙◌, ap, sym, subst, Option, string_bytes}
use Rattle.std.specs.Prelude.{Ok, unwrap_or}
use Rattle.reh_model.specs.Cluster.{Cluster}
use Rattle.reh_model.specs.Session.{Session, state_of}
use Rattle.reh_picture_out.specs.Kept.{kept_of}
use Rattle.reh_picture_out.specs.Marks.{KeepsMarksIn}
use Rattle.reh_after.specs.Faults.{IsEndFault}
use Rattle.reh_after.proofs.AfterLaws.{doubt_ends, passed_on, unheld_ends}
use Rattle.reh_after.proofs.pictures.end_of.Goals as goal

pub returns-in-Ok-clause-end : goal.returns-in-Ok-clause-end
returns-in-Ok-clause-end c =
    let session : Session = c.play_lines.new.session in
    let state : c.state.result.now ≡ state_of session =
    sym (ap (λ (o : Option Cluster). unwrap_or o session.opening) c.state.ensures.replays) in
    record {
      session = session;
      played = c.in_ok-play_lines.ensures.played;
      shown = c.in-Ok.ensures.state ∙ ap (λ (s : Cluster). Ok (kept_of s)) state;
      listed = c.in-Ok.ensures.listed;
      marks = subst (λ (s : Cluster). KeepsMarksIn s c.args.begun.now.marked (string_bytes c.in-Ok.text)) state
          c.in-Ok.ensures.marks;
      known = c.in_ok-check_known.ensures.known;
    }

pub returns-in_err-check_known-clause-fault : goal.returns-in_err-check_known-clause-fault
returns-in_err-check_known-clause-fault c =
    passed_on c.from_residual-in_err-check_known.result (IsEndFault c.args.begun.now c.args.script.now c.args.all_known)
    c.in_err-check_known.field-0.0 c.from_residual-in_err-check_known.ensures.1
    (doubt_ends c.args.begun.now c.args.script.now c.args.all_known c.play_lines.new.session _ c.in_ok-play_lines.ensures.played c.in_err-check_known.ensures.asked c.in_err-check_known.ensures.fault)

pub returns-in-Err-clause-fault : goal.returns-in-Err-clause-fault
returns-in-Err-clause-fault c =
    rw c.unheld.ensures
    (unheld_ends c.args.begun.now c.args.script.now c.args.all_known c.play_lines.new.session _ c.in_ok-play_lines.ensures.played)
