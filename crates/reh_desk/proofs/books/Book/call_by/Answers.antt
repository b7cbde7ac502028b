-- A move of the session adds its line, or there is no room for one.
use Rattle.std.proofs.Common.{◌≡◌, length, sym, ◌∙◌, arith}
use Rattle.reh_desk.proofs.Lines.{not_asked, not_copied, unchanged, asked_kept}
use Rattle.reh_desk.proofs.books.Book.call_by.Goals as goal

pub returns-in-Err-clause-called : goal.returns-in-Err-clause-called
returns-in-Err-clause-called g c =
    let i = c.self.inside in
    let reserved : c.len-reserved.result ≡ length i.out.items = omega (arith, i.out.ok.0, c.len-reserved.ensures) in
    unchanged _ _ _ _ _ _ _ _ _ _ c.self.view_is c.make_room.ensures.items
    (not_asked _ _ _ _ _ _ _ _ (rw reserved at c.in-Err.ensures.full))

pub returns-in-Err-clone_in-clause-called : goal.returns-in-Err-clone_in-clause-called
returns-in-Err-clone_in-clause-called g c =
    let i = c.self.inside in
    let reserved : c.len-reserved.result ≡ length i.out.items = omega (arith, i.out.ok.0, c.len-reserved.ensures) in
    rw c.from.ensures
    (unchanged _ _ _ _ _ _ _ _ _ _ c.self.view_is c.make_room.ensures.items
    (not_copied _ _ _ _ _ _ _ (rw reserved at c.in_default.ensures.full)))

pub invariant_of-self-then-is_written : goal.invariant_of-self-then-is_written
invariant_of-self-then-is_written g c =
    let i = c.self.inside in
    let reserved : c.len-reserved.result ≡ length i.out.items = omega (arith, i.out.ok.0, c.len-reserved.ensures) in
    rw (c.write.ensures.lines, c.tape_line.ensures, c.make_room.ensures.items)
    (asked_kept _ _ _ _ _ _ c.self.invariant _ _ _ _ (rw reserved at c.in_default.ensures.full)
    c.perform-reply.ensures.answers (sym c.is_written.ensures ∙ c.if-is_written.true)
    (omega (arith, reserved, c.in_default.ensures.room, c.write.ensures.capacity)))
