-- Refused or not, the post has its reply, which is that of its copy where it is accepted; and the swaps that survive
-- keep their promises.
use Rattle.std.proofs.Common.{◌∙◌, ap, sym, rules}
use Rattle.reh_types.specs.declared.contents.Content.{Content}
use Rattle.reh_types.specs.declared.moves.Move.TheVariants.{Post}
use Rattle.reh_model.specs.Refusals.{or_no_memory}
use Rattle.reh_model.specs.Scan.{copy_of}
use Rattle.reh_model.specs.Session.{Session, state_of, reply_of}
use Rattle.reh_model.proofs.PostLaws.{accepted_post, Performs-post}
use Rattle.reh_session.proofs.Keeps.{content_accepted, record_now, post_refused, act_full, act_unmade, kept_safe}
use Rattle.reh_session.proofs.Keeps.{perform_safe}
use Rattle.reh_session.proofs.sessions.Session.post.Goals as goal

pub returns-in_err-entries-clause-answers : goal.returns-in_err-entries-clause-answers
returns-in_err-entries-clause-answers c =
    search (rules, post_refused c.self.invariant _ c.self.view_is c.args.content.now _ c.in_err-entries.ensures)

pub returns-in_err-entries-clause-lasting : goal.returns-in_err-entries-clause-lasting
returns-in_err-entries-clause-lasting c = kept_safe c.self.invariant _ c.self.view_is

pub returns-then-is_full-clause-answers : goal.returns-then-is_full-clause-answers
returns-then-is_full-clause-answers c =
    let m : Session = c.args.self.now in
    let content : Content = c.args.content.now in
    let none = c.in_ok-entries.ensures.0 in
    Performs-post m m content _ (content_accepted c.self.invariant _ c.self.view_is content none)
    (act_full c.self.invariant _ c.self.view_is (copy_of content) (accepted_post c.self.inside.state content none)
    (sym c.is_full.ensures ∙ c.if-is_full.true))

pub returns-then-is_full-clause-lasting : goal.returns-then-is_full-clause-lasting
returns-then-is_full-clause-lasting c = kept_safe c.self.invariant _ c.self.view_is

pub copy_record-requires-clause-accepted : goal.copy_record-requires-clause-accepted
copy_record-requires-clause-accepted c = accepted_post c.self.inside.state c.args.content.now c.in_ok-entries.ensures.0

pub returns-in_err-changes-clause-answers : goal.returns-in_err-changes-clause-answers
returns-in_err-changes-clause-answers c =
    let m : Session = c.args.self.now in
    let content : Content = c.args.content.now in
    let none = c.in_ok-entries.ensures.0 in
    let accepted = accepted_post c.self.inside.state content none in
    search (
      rules,
      Performs-post m m content _ (content_accepted c.self.invariant _ c.self.view_is content none)
          (act_unmade c.self.invariant _ c.self.view_is (copy_of content) _ (sym c.is_full.ensures ∙ c.if-is_full.false)
          (sym (ap or_no_memory accepted))),
    )

pub returns-in_err-changes-clause-lasting : goal.returns-in_err-changes-clause-lasting
returns-in_err-changes-clause-lasting c = kept_safe c.self.invariant _ c.self.view_is

pub make-requires-clause-accepted : goal.make-requires-clause-accepted
make-requires-clause-accepted c =
    accepted_post (state_of c.args.self.now) c.args.content.now
    (content_accepted c.self.invariant _ c.self.view_is c.args.content.now c.in_ok-entries.ensures.0)

pub make-requires-clause-record_of : goal.make-requires-clause-record_of
make-requires-clause-record_of c =
    record_now c.self.invariant _ c.self.view_is (copy_of c.args.content.now) c.in_ok-changes.changes
    c.in_ok-changes.ensures

pub returns-clause-answers : goal.returns-clause-answers
returns-clause-answers c =
    Performs-post c.args.self.now c.make.new.self c.args.content.now (reply_of c.make.result)
    (content_accepted c.self.invariant _ c.self.view_is c.args.content.now c.in_ok-entries.ensures.0) c.make.ensures

pub returns-clause-lasting : goal.returns-clause-lasting
returns-clause-lasting c =
    perform_safe c.self.invariant _ c.self.view_is c.make.new.self (Post c.args.content.now) (reply_of c.make.result)
    (returns-clause-answers c)
