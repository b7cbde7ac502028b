use Rattle.std.proofs.Common.{◌≡◌, take}
use Rattle.reh_session.proofs.sessions.are_same.Given as goal

-- the records so far are the same
abbrev pub invariant-loop-index : goal.invariant-loop-index
invariant-loop-index l = take l.index l.records ≡ take l.index l.others
