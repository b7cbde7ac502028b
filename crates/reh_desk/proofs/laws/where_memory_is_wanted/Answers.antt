-- Each clause is a lemma on the reply 'out of memory'.
use Rattle.reh_desk.proofs.Wants.{spend_wants, discard_wants, move_full, checkout_full, unchanged}
use Rattle.reh_desk.proofs.laws.where_memory_is_wanted.Goals as goal

pub returns-clause-spends : goal.returns-clause-spends
returns-clause-spends c = spend_wants

pub returns-clause-discards : goal.returns-clause-discards
returns-clause-discards c = discard_wants

pub returns-clause-full_for_a_move : goal.returns-clause-full_for_a_move
returns-clause-full_for_a_move c = move_full

pub returns-clause-full_for_a_checkout : goal.returns-clause-full_for_a_checkout
returns-clause-full_for_a_checkout c = checkout_full

pub returns-clause-unchanged : goal.returns-clause-unchanged
returns-clause-unchanged c = unchanged
