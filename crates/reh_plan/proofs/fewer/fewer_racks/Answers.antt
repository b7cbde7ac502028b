-- One ledger more, and then all.
use Rattle.std.proofs.Common.{inl, inr}
use Rattle.std.specs.Iterator.Adapters.{zip_first, zip_second}
use Rattle.std.specs.Slice.Iter.{iter_rest}
use Rattle.std.proofs.lemmas.List.{nil_from_length}
use Rattle.reh_plan.proofs.FewerLaws.{among-all, among-more}
use Rattle.reh_plan.proofs.fewer.fewer_racks.Goals as goal

pub loop-metadata-preserved : goal.loop-metadata-preserved
loop-metadata-preserved c =
    among-more c.args.racks.now c.in-Some.metadata.now c.in-Some.ledger.now _ _ _ _ c.loop-metadata.fewer.items
    c.add_fewer.new.fewer.items _ c.in-Some.ensures.steps.0 c.in-Some.ensures.steps.1 c.in_ok-add_fewer.ensures
    c.loop-metadata.invariant

pub returns : goal.returns
returns c =
    among-all c.args.racks.now (iter_rest (zip_first c.loop-metadata.metadata-iterator))
    (iter_rest (zip_second c.loop-metadata.metadata-iterator)) c.loop-metadata.fewer.items _
    (elim c.in-None.ensures.steps [
      | inl ended ↦ inl (nil_from_length _ ended.1.0)
      | inr ended ↦ inr (nil_from_length _ ended.1.0)
    ])
    c.loop-metadata.invariant
