-- An aim that is refused gets its line, and a ticket that is issued its own and one in reserve.
use Rattle.std.proofs.Common.{◌≡◌, ◌∙◌, ℕ, ◌+◌, ◌<◌, ◌≤◌, Bool, true, false, length, Option, Some, sym, ap, subst, arith}
use Rattle.std.specs.Prelude.{Result, Ok, Err, nat_le, unwrap_or}
use Rattle.std.specs.Result.{IsErrAnd}
use Rattle.std.proofs.lemmas.Bool.Decides.{nat_tests}
use Rattle.reh_types.specs.declared.calls.Call.TheVariants.{Checkout}
use Rattle.reh_types.specs.declared.moves.Reply.{Reply}
use Rattle.reh_types.specs.declared.moves.Reply.TheVariants.{Issued, Refused}
use Rattle.reh_types.specs.declared.refusals.Refusal.{Refusal}
use Rattle.reh_types.specs.declared.refusals.Refusal.TheVariants.{NoMemory}
use Rattle.reh_model.specs.Cluster.{Cluster}
use Rattle.reh_model.specs.Scan.{scan}
use Rattle.reh_model.specs.Session.{state_of}
use Rattle.reh_desk.specs.declared.tickets.Ticket.{Ticket}
use Rattle.reh_desk.specs.Kept.{Kept, kept_of, Called}
use Rattle.reh_desk.specs.Replies.{checked_out}
use Rattle.reh_desk.specs.Seats.{SeatView}
use Rattle.reh_desk.proofs.Lines.{called_line, most_out, not_issued, not_stored, unchanged, refused, issued, refused_kept, issued_kept}
use Rattle.reh_desk.proofs.SeatCalls.{aim_refused, with_line-out, with_ticket}
use Rattle.reh_desk.proofs.books.Book.checkout_by.Goals as goal

at_most : (b : Bool) (most out : ℕ) → b ≡ nat_le most out → b ≡ true → most ≤ out
at_most b most out is reached = grind (arith, nat_tests)

below_most : (b : Bool) (most out : ℕ) → b ≡ nat_le most out → b ≡ false → out < most
below_most b most out is missed = grind (arith, nat_tests)

-- the reply of a checkout that fails
failed : (r : Result Ticket Refusal) (refusal : Refusal) → IsErrAnd r (λ e. e ≡ refusal) → checked_out r ≡ Refused refusal
failed (Ok ticket) refusal is = absurd is
failed (Err e) refusal is = ap Refused is

pub invariant_of-self-in-Err : goal.invariant_of-self-in-Err
invariant_of-self-in-Err g c =
    let i = c.self.inside in
    let reserved : c.len-reserved.result ≡ length i.out.items = omega (arith, i.out.ok.0, c.len-reserved.ensures) in
    rw (c.write_checkout.ensures.lines, c.make_room.ensures.items)
    (refused_kept _ _ _ _ _ _ c.self.invariant _ _ _ _ (rw reserved at c.in_ok-make_room.ensures.full)
    c.state.ensures.replays c.in-Err.ensures
    (omega (arith, reserved, c.in_ok-make_room.ensures.room, c.write_checkout.ensures.capacity)))

pub returns-in-Err-clause-called : goal.returns-in-Err-clause-called
returns-in-Err-clause-called g c few =
    let i = c.self.inside in
    let reserved : c.len-reserved.result ≡ length i.out.items = omega (arith, i.out.ok.0, c.len-reserved.ensures) in
    let call = Checkout c.args.aim in
    let reply = Refused c.in-Err.refusal in
    let after = kept_of i.opening i.session c.write_checkout.new.lines.items i.last_ticket i.out.items in
    subst (λ n. Called c.args.self.now n call reply after) c.number-seat.ensures
    (subst (λ (k : Kept). Called k c.number-seat.result call reply after) c.self.view_is
    (rw (c.write_checkout.ensures.lines, c.make_room.ensures.items)
    (called_line (refused _ _ _ _ _ _ _ _ _ (rw reserved at c.in_ok-make_room.ensures.full)
    c.state.ensures.replays c.in-Err.ensures))))

pub returns-in-Err-clause-caller : goal.returns-in-Err-clause-caller
returns-in-Err-clause-caller g c =
    aim_refused _ _ _ _ c.state.result.now _ _ c.in-Err.ensures c.make_room.ensures.shown c.write_checkout.ensures.own_line

pub invariant_of-self-2 : goal.invariant_of-self-2
invariant_of-self-2 g c =
    let i = c.self.inside in
    let reserved : c.len-reserved.result ≡ length i.out.items = omega (arith, i.out.ok.0, c.len-reserved.ensures) in
    rw (c.write_checkout-2.ensures.lines, c.push_reserved.ensures.items, c.reserve.ensures.items, c.make_room.ensures.items)
    (issued_kept _ _ _ _ _ _ c.self.invariant _ _ _ (rw reserved at c.in_ok-make_room.ensures.full)
    c.state.ensures.replays c.in_default.ensures
    (omega (arith, reserved, c.in_ok-make_room.ensures.room, c.write_checkout-2.ensures.capacity)))

pub returns-clause-issued : goal.returns-clause-issued
returns-clause-issued g c =
    let i = c.self.inside in
    let reserved : c.len-reserved.result ≡ length i.out.items = omega (arith, i.out.ok.0, c.len-reserved.ensures) in
    let call = Checkout c.args.aim in
    let reply = Issued (i.last_ticket + 1) in
    let after =
    kept_of i.opening i.session c.write_checkout-2.new.lines.items (i.last_ticket + 1) c.push_reserved.new.self.items in
    rw c.new.ensures
    (subst (λ n. Called c.args.self.now n call reply after) c.number-seat.ensures
    (subst (λ (k : Kept). Called k c.number-seat.result call reply after) c.self.view_is
    (rw (c.write_checkout-2.ensures.lines, c.push_reserved.ensures.items, c.reserve.ensures.items, c.make_room.ensures.items)
    (called_line (issued _ _ _ _ _ _ _ _ (rw reserved at c.in_ok-make_room.ensures.full)
    c.state.ensures.replays c.in_default.ensures)))))

pub returns-clause-called : goal.returns-clause-called
returns-clause-called g c few = returns-clause-issued g c

pub returns-then-has_most_out-clause-called : goal.returns-then-has_most_out-clause-called
returns-then-has_most_out-clause-called g c few =
    most_out _ _ _ (omega (arith, few, at_most _ _ _ c.has_most_out.ensures c.if-has_most_out.true))

pub returns-in_err-make_room-clause-called : goal.returns-in_err-make_room-clause-called
returns-in_err-make_room-clause-called g c few =
    let i = c.self.inside in
    let reserved : c.len-reserved.result ≡ length i.out.items = omega (arith, i.out.ok.0, c.len-reserved.ensures) in
    let after = kept_of i.opening i.session c.make_room.new.lines.items i.last_ticket i.out.items in
    subst (λ (r : Reply). Called c.args.self.now (g.C.Caller.shown c.args.caller.now).number (Checkout c.args.aim) r after)
    (sym (failed c.from_residual.result c.in_err-make_room.field-0.0 c.from_residual.ensures.1))
    (unchanged _ _ _ _ _ _ _ _ _ _ c.self.view_is c.make_room.ensures.items
    (not_issued _ _ _ _ _ _ _ _ (rw reserved at c.in_err-make_room.ensures.full)))

pub returns-in_err-reserve-clause-called : goal.returns-in_err-reserve-clause-called
returns-in_err-reserve-clause-called g c few =
    let i = c.self.inside in
    let reserved : c.len-reserved.result ≡ length i.out.items = omega (arith, i.out.ok.0, c.len-reserved.ensures) in
    let after = kept_of i.opening i.session c.make_room.new.lines.items i.last_ticket c.reserve.new.self.items in
    subst (λ (r : Reply). Called c.args.self.now (g.C.Caller.shown c.args.caller.now).number (Checkout c.args.aim) r after)
    (sym (failed c.from_residual-in_err-reserve.result NoMemory c.from_residual-in_err-reserve.ensures.1))
    (rw c.reserve.ensures.items
    (unchanged _ _ _ _ _ _ _ _ _ _ c.self.view_is c.make_room.ensures.items
    (not_stored _ _ _ _ _ _ _ (rw reserved at c.in_ok-make_room.ensures.full))))

pub returns-in_err-job-clause-called : goal.returns-in_err-job-clause-called
returns-in_err-job-clause-called g c few =
    let i = c.self.inside in
    let reserved : c.len-reserved.result ≡ length i.out.items = omega (arith, i.out.ok.0, c.len-reserved.ensures) in
    let after = kept_of i.opening i.session c.make_room.new.lines.items i.last_ticket c.reserve.new.self.items in
    subst (λ (r : Reply). Called c.args.self.now (g.C.Caller.shown c.args.caller.now).number (Checkout c.args.aim) r after)
    (sym (failed c.from_residual-in_err-job.result NoMemory c.from_residual-in_err-job.ensures.1))
    (rw c.reserve.ensures.items
    (unchanged _ _ _ _ _ _ _ _ _ _ c.self.view_is c.make_room.ensures.items
    (not_stored _ _ _ _ _ _ _ (rw reserved at c.in_ok-make_room.ensures.full))))

pub returns-clause-caller : goal.returns-clause-caller
returns-clause-caller g c =
    rw c.new.ensures
    (with_ticket g.C.Caller.keeps _ _ _ _ _ _ c.make_room.ensures.shown c.write_checkout-2.ensures.own_line c.count_issue.ensures)

pub count_issue-requires : goal.count_issue-requires
count_issue-requires g c =
    let same : (g.C.Caller.shown c.write_checkout-2.new.caller).out ≡ (g.C.Caller.shown c.args.caller.now).out =
    ap (λ (s : SeatView). s.out) c.write_checkout-2.ensures.own_line ∙ with_line-out g.C.Caller.keeps _ _
    ∙ ap (λ (s : SeatView). s.out) c.make_room.ensures.shown in
    record {
      room = c.write_checkout-2.ensures.left 1 (c.in_ok-make_room.ensures.own_room 2 (omega arith));
      few = omega (arith, same, below_most _ _ _ c.has_most_out.ensures c.if-has_most_out.false);
    }

pub returns-clause-ticket : goal.returns-clause-ticket
returns-clause-ticket g c =
    let i = c.self.inside in
    rw c.new.ensures
    (subst (λ (k : Kept). scan (state_of k.book.session) c.args.aim ≡ Some c.in_ok-job.job) c.self.view_is
    (ap (λ (x : Option Cluster). scan (unwrap_or x i.session.opening) c.args.aim) c.state-2.ensures.replays
    ∙ c.in_ok-job.ensures))
