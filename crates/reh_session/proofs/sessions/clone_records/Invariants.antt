use Rattle.std.proofs.Common.{◌≡◌, take}
use Rattle.reh_session.proofs.sessions.clone_records.Given as goal

-- the records so far are copied
abbrev pub invariant-loop-changes : goal.invariant-loop-changes
invariant-loop-changes l = l.copy.items ≡ take l.changes-index l.records.items
