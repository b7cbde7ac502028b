-- One member more, and none that is left.
use Rattle.std.proofs.Common.{arith}
use Rattle.reh_run_json.proofs.TokenLaws.{leaves-none}
use Rattle.reh_run_json.proofs.FragmentLaws.{members-end}
use Rattle.reh_run_json.proofs.fragments.add_members.Goals as goal

pub returns : goal.returns
returns c =
    leaves-none _ _ _ _
    (members-end c.args.names.now c.args.id c.args.fragment c.loop-i.i c.args.was.now c.args.now.now (omega arith))
    c.loop-i.invariant
