-- What a scan finds is found in what is read.
use Rattle.std.proofs.Common.{◌≡◌, ◌∙◌, ap, sym, List, Some}
use Rattle.std.specs.Prelude.{slice_get}
use Rattle.reh_types.specs.declared.names.Aim.{Aim}
use Rattle.reh_model.specs.Cluster.{Cluster, Ledger}
use Rattle.reh_model.specs.Metadata.{Fragment, Metadata, stop_of}
use Rattle.reh_model.proofs.ListLaws.{slice_get-there}
use Rattle.reh_scan.proofs.JobLaws.{content_of-read, scan-found}
use Rattle.reh_scan.proofs.jobs.Job.of.Goals as goal

pub returns : goal.returns
returns c =
    let s : Cluster = c.args.state.now in
    let aim : Aim = c.args.aim.now in
    let g : Ledger = c.in-Some.ledger.now in
    let fragment : Fragment = c.in-Some-get.fragment.now in
    let there : slice_get g.metadata.fragments aim.fragment ≡ Some fragment =
    ap (λ (m : Metadata). slice_get m.fragments aim.fragment) (sym c.metadata-metadata.ensures)
    ∙ ap (λ (fragments : List Fragment). slice_get fragments aim.fragment) (sym c.fragments.ensures.fragments)
    ∙ slice_get-there c.fragments.result.now aim.fragment fragment c.in-Some-get.ensures.lookup.3.0
    c.in-Some-get.ensures.lookup.1 in
    let ends : stop_of g.metadata aim.fragment ≡ Some c.in-Some-end_of.stop =
    ap (λ (m : Metadata). stop_of m aim.fragment) (sym c.metadata-metadata.ensures) ∙ sym c.in-Some-end_of.ensures in
    let version : c.version.result ≡ g.metadata.version =
    c.version.ensures ∙ ap (λ (m : Metadata). m.version) c.metadata-metadata.ensures in
    scan-found s aim g fragment c.in-Some-end_of.stop (sym c.in-Some.ensures) there ends
    ∙ ap Some
    (content_of-read s g aim fragment c.in-Some-end_of.stop c.version.result c.in_ok-reading.reading
    c.in_ok-reading.ensures version there ends)
