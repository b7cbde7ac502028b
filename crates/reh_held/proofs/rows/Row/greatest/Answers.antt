-- The words from the end on are 0, and this one is not.
use Rattle.std.proofs.Common.{◌≤◌, List, ℕ, length, arith, ◌-◌}
use Rattle.std.proofs.lemmas.List.{get_or_read}
use Rattle.reh_held.proofs.GreatestLaws.{greatest_is}
use Rattle.reh_held.proofs.rows.Row.greatest.Goals as goal

pub returns-then-word-ne0 : goal.returns-then-word-ne0
returns-then-word-ne0 c =
    let words : List ℕ = c.self.inside.words.items in
    let within : c.loop-end.end ≤ length words = c.loop-end.invariant.0 in
    let read = get_or_read words (c.loop-end.end - 1) c.index-word.result.now (omega arith) c.index-word.ensures 0 in
    rw (← c.self.view_is)
    (greatest_is words c.loop-end.end c.index-word.result.now c.ilog2.result (omega arith) within read
    c.ilog2.ensures.power_le c.ilog2.ensures.next_power_gt c.ilog2.ensures.bound c.loop-end.invariant.1)
