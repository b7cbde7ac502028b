-- No member is left at the end.
use Rattle.std.proofs.Common.{arith}
use Rattle.reh_changes.proofs.FragmentLaws.{members_end}
use Rattle.reh_changes.proofs.fragments.push_members.Goals as goal

pub returns : goal.returns
returns c =
    members_end _ _ c.args.names.now c.args.id c.args.fragment c.loop-i.i c.args.was.now c.args.now.now
    (omega arith) c.loop-i.invariant
