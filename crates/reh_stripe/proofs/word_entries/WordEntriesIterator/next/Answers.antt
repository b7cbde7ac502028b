-- Each call gives the least entry that is left, whose bit is taken away.
use Rattle.std.proofs.Common.{◌∙◌, List, ℕ, length, ap, sym, arith}
use Rattle.reh_stripe.proofs.WordLaws.{entries-taken}
use Rattle.reh_stripe.proofs.word_entries.WordEntriesIterator.next.Goals as goal

pub overflow_sub-self : goal.overflow_sub-self
overflow_sub-self c =
    let w = c.self.inside.word in
    (entries-taken w.number w.bits c.in_ok-entry.entry (omega arith) (sym c.least_entry.ensures ∙ c.in_ok-entry.was)).0

pub returns-clause-steps : goal.returns-clause-steps
returns-clause-steps c =
    let w = c.self.inside.word in
    sym c.self.view_is
    ∙ (entries-taken w.number w.bits c.in_ok-entry.entry (omega arith) (sym c.least_entry.ensures ∙ c.in_ok-entry.was)).1

pub returns-clause-goes : goal.returns-clause-goes
returns-clause-goes c =
    let w = c.self.inside.word in
    let steps =
    sym c.self.view_is
    ∙ (entries-taken w.number w.bits c.in_ok-entry.entry (omega arith) (sym c.least_entry.ensures ∙ c.in_ok-entry.was)).1 in
    let lengths = ap (λ (xs : List ℕ). length xs) steps in
    record { on = λ _. (tt, tt, omega (arith, lengths)); keeps = tt; rests = λ _. tt }
