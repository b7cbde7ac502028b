-- A registered member gets what is striped onto its index; others get nothing.
use Rattle.std.proofs.Common.{◌≡◌, ◌∙◌, None, Some, ap, sym, subst, arith}
use Rattle.reh_model.specs.Metadata.{Metadata, Fragment, IsMetadata, last_fragment}
use Rattle.reh_model.specs.Striping.{striped_entries}
use Rattle.reh_model.specs.Cluster.{Cluster, Ledger}
use Rattle.reh_model.proofs.StripingLaws.{striped_entries-nil}
use Rattle.reh_model.specs.Recovery.{recovered_end}
use Rattle.reh_step.specs.Records.{registered_index, recovered_by}
use Rattle.reh_step.proofs.SealLaws.{recovered_none, registered_within, recovered_member}
use Rattle.reh_step.proofs.records.recovered_by.Goals as goal

pub returns-in_default : goal.returns-in_default
returns-in_default c =
    let s : Cluster = c.args.state.now in
    let g : Ledger = c.args.ledger.now in
    let nowhere : registered_index s (last_fragment g.metadata).ensemble c.args.bookie ≡ None =
    ap (λ (fragment : Fragment). registered_index s fragment.ensemble c.args.bookie)
    (sym c.last_fragment-last.ensures.last) ∙ sym c.registered_index.ensures ∙ c.in_default.is in
    c.new.ensures
    ∙ striped_entries-nil c.last.inside.first c.last.inside.first 0 c.size-size.result c.write_quorum-quorum.result
    (omega arith)
    ∙ sym
    (recovered_none s g c.args.bookie (subst IsMetadata c.metadata-metadata.ensures c.size-size.ensures.well_formed)
    nowhere)

pub overflow_cast-index : goal.overflow_cast-index
overflow_cast-index c =
    let was : IsMetadata c.args.ledger.now.metadata =
    subst IsMetadata c.metadata-metadata.ensures c.size-size.ensures.well_formed in
    omega (
      arith,
      registered_within c.args.state.now c.last_fragment-last.result.now.ensemble c.args.bookie c.in-Some.index
          (sym c.registered_index.ensures ∙ c.in-Some.is),
      c.last_fragment-last.ensures.whole,
      was.small,
    )

pub returns : goal.returns
returns c =
    let s : Cluster = c.args.state.now in
    let g : Ledger = c.args.ledger.now in
    let m : Metadata = g.metadata in
    let first : c.last.inside.first ≡ (last_fragment m).first =
    ap (λ (fragment : Fragment). fragment.first) (c.last.view_is ∙ c.last_fragment-last.ensures.last) in
    let size : c.size-size.result ≡ m.size =
    c.size-size.ensures.size ∙ ap (λ (x : Metadata). x.size) c.metadata-metadata.ensures in
    let quorum : c.write_quorum-quorum.result ≡ m.write_quorum =
    c.write_quorum-quorum.ensures ∙ ap (λ (x : Metadata). x.write_quorum) c.metadata-metadata.ensures in
    let somewhere : registered_index s (last_fragment m).ensemble c.args.bookie ≡ Some c.in-Some.index =
    ap (λ (fragment : Fragment). registered_index s fragment.ensemble c.args.bookie)
    (sym c.last_fragment-last.ensures.last) ∙ sym c.registered_index.ensures ∙ c.in-Some.is in
    let striped : recovered_by s g c.args.bookie ≡ striped_entries (last_fragment m).first (recovered_end s g)
    c.in-Some.index m.size m.write_quorum =
    recovered_member s g c.args.bookie c.in-Some.index
    (subst IsMetadata c.metadata-metadata.ensures c.size-size.ensures.well_formed) somewhere in
    c.new-2.ensures
    ∙ (λ i. striped_entries (first i) (c.requires i) c.in-Some.index (size i) (quorum i))
    ∙ sym striped
