-- One place more of the lists is printed.
use Rattle.std.proofs.Common.{◌∙◌}
use Rattle.reh_changes.proofs.FragmentLaws.{fragment_more}
use Rattle.reh_changes.proofs.fragments.push_fragments.Goals as goal

pub loop-f-preserved : goal.loop-f-preserved
loop-f-preserved c =
    rw (c.in_ok-push_fragment.ensures, c.fragment_at.ensures, c.fragment_at-in-loop-f.ensures)
    (fragment_more _ c.args.names.now c.args.id c.loop-f.f c.args.was.now c.args.now.now ∙ c.loop-f.invariant)
