-- One place more of the lists, and none that is left.
use Rattle.std.proofs.Common.{arith}
use Rattle.reh_run_json.proofs.TokenLaws.{leaves-more, leaves-none}
use Rattle.reh_run_json.proofs.FragmentLaws.{fragment-more, fragments-end}
use Rattle.reh_run_json.proofs.fragments.add_fragments.Goals as goal

pub loop-f-preserved : goal.loop-f-preserved
loop-f-preserved c =
    leaves-more _ _ _ _ _ _ _
    (rw (c.fragment_at.ensures, c.fragment_at-in-loop-f.ensures)
    (fragment-more c.args.names.now c.args.id c.loop-f.f c.args.was.now c.args.now.now))
    c.loop-f.invariant c.in_ok-add_fragment.ensures

pub returns : goal.returns
returns c =
    leaves-none _ _ _ _
    (fragments-end c.args.names.now c.args.id c.loop-f.f c.args.was.now c.args.now.now (omega arith))
    c.loop-f.invariant
