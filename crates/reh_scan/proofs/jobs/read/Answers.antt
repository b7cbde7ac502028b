-- What is read is what the ledger's metadata says of its ensembles, and what the fragment says.
use Rattle.std.proofs.Common.{◌≡◌, ◌∙◌, ap, sym, refl, subst, arith, ℕ, List, length}
use Rattle.std.proofs.lemmas.List.Elements.{same_from_all_zip}
use Rattle.reh_model.specs.Metadata.{Fragment, Metadata, IsMetadata}
use Rattle.reh_scan.specs.declared.jobs.Reading.{Reading}
use Rattle.reh_scan.specs.Jobs.{IsReading}
use Rattle.reh_scan.proofs.jobs.read.Goals as goal

reading_of : (m : Metadata) (r : Reading) → IsMetadata m → r.size ≡ m.size → r.write_quorum ≡ m.write_quorum
    → length r.ensemble ≡ m.size → length r.rows.items ≡ m.size → IsReading r
reading_of m r was size quorum members rows = record {
  some = omega (arith, was.some_acks, was.acks_within);
  within = omega (arith, was.writes_within);
  small = omega (arith, was.small);
  members = members ∙ sym size;
  rows = rows ∙ sym size;
}

pub returns : goal.returns
returns c =
    let m : Metadata = c.args.ledger.now.metadata in
    let stored : c.metadata-metadata.result.now ≡ m = c.metadata-metadata.ensures in
    let size : c.size.result ≡ m.size = c.size.ensures.size ∙ ap (λ (x : Metadata). x.size) stored in
    let quorum : c.write_quorum.result ≡ m.write_quorum =
    c.write_quorum.ensures ∙ ap (λ (x : Metadata). x.write_quorum) stored in
    let ensemble : c.of.result ≡ c.args.fragment.now.ensemble =
    c.of.ensures ∙ same_from_all_zip _ _ _ c.in_ok-clone.ensures.cases.0 (λ x y is. is)
    ∙ ap (λ (f : Fragment). f.ensemble) c.fragment.view_is in
    record {
      reading =
          reading_of m _ (subst (λ (x : Metadata). IsMetadata x) stored c.size.ensures.well_formed) size quorum
          (ap (λ (members : List ℕ). length members) ensemble ∙ c.requires) (c.in_ok-copy_rows.ensures.size ∙ c.requires);
      first = ap (λ (f : Fragment). f.first) c.fragment.view_is;
      stop_is = refl;
      size = size;
      write_quorum = quorum;
      ensemble = ensemble;
      copies = c.in_ok-copy_rows.ensures;
    }
