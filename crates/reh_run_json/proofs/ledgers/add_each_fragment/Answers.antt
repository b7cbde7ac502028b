-- One fragment more, and none that is left.
use Rattle.std.proofs.Common.{ap, length, List, arith}
use Rattle.reh_model.specs.Metadata.{Fragment}
use Rattle.reh_run_json.proofs.ReportLaws.{fragment-more, fragments-end}
use Rattle.reh_run_json.proofs.TokenLaws.{leaves-more, leaves-none}
use Rattle.reh_run_json.proofs.ledgers.add_each_fragment.Goals as goal

pub loop-f-preserved : goal.loop-f-preserved
loop-f-preserved c =
    leaves-more _ _ _ _ _ _ _
    (fragment-more c.args.names.now c.args.metadata.now c.loop-f.f c.args.metadata.now.fragments
    (omega (arith, ap (λ (fs : List Fragment). length fs) c.fragments-f-end.ensures.fragments)))
    c.loop-f.invariant c.in_ok-add_fragment_at.ensures

pub returns : goal.returns
returns c =
    leaves-none _ _ _ _
    (fragments-end c.args.names.now c.args.metadata.now c.loop-f.f c.args.metadata.now.fragments
    (omega (arith, ap (λ (fs : List Fragment). length fs) c.fragments-f-end.ensures.fragments)))
    c.loop-f.invariant
