-- An entry that no row of its write set has can't be read.
use Rattle.std.proofs.Common.{◌≡◌, ◌∙◌, ◌+◌, ◌-◌, not, ap, sym, arith}
use Rattle.std.specs.Prelude.{count_by}
use Rattle.reh_model.specs.Striping.{range}
use Rattle.reh_model.specs.Metadata.{Fragment, Metadata}
use Rattle.reh_scan.proofs.ReadingLaws.{is_readable-rows}
use Rattle.reh_scan.proofs.surveys.count_lost.Goals as goal

pub returns : goal.returns
returns c =
    let m : Metadata = c.metadata.result.now in
    let first : c.fragment.inside.first ≡ c.args.fragment.now.first =
    ap (λ (f : Fragment). f.first) c.fragment.view_is in
    let stop : c.args.stop - 1 + 1 ≡ c.args.stop = omega arith in
    c.count_lacking.ensures
    ∙ (λ i.
    count_by
    (λ e.
    not
    (sym
    (is_readable-rows c.args.state.now c.args.ledger.now c.args.fragment.now c.source_rows-rows.result m
    c.metadata.ensures
    c.source_rows-rows.ensures.well_formed c.source_rows-rows.ensures.rows e) i)) (range (first i) (stop i)))
