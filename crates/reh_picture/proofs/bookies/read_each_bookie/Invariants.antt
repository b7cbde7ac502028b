-- The bookies so far have no fault; theirs are the names and the registrations.
use Rattle.reh_picture.proofs.BookiesLemmas.{HasRead}
use Rattle.reh_picture.proofs.bookies.read_each_bookie.Given as goal

abbrev pub invariant-loop-i : goal.invariant-loop-i
invariant-loop-i l = HasRead l.bookies l.i l.names l.lost_at.items
