-- What is added so far, and the members that are left.
use Rattle.std.proofs.Common.{drop}
use Rattle.reh_run_json.proofs.TokenLaws.{Leaves, members_from}
use Rattle.reh_run_json.proofs.values.add_each_member.Given as goal

abbrev pub invariant-loop-i : goal.invariant-loop-i
invariant-loop-i l = Leaves (members_from l.bookies l.i (drop l.i l.names)) (members_from l.bookies 0 l.names) l.fn.json l.json
