-- One file more, and then all.
use Rattle.std.proofs.Common.{inl, inr, map, string_bytes}
use Rattle.std.specs.Iterator.Adapters.{zip_first, zip_second}
use Rattle.std.specs.Slice.Iter.{iter_rest}
use Rattle.std.proofs.lemmas.List.{nil_from_length}
use Rattle.reh_questions.proofs.AgainstLaws.{cut-all, cut-more}
use Rattle.reh_questions.proofs.against.cut_notes.Goals as goal

pub loop-path-preserved : goal.loop-path-preserved
loop-path-preserved c =
    cut-more c.in-Some.path.now c.in-Some.kind.now _ _ _ _ (map string_bytes c.loop-path.notes.items)
    (map string_bytes c.push_cut.new.notes.items) _ c.in-Some.ensures.steps.0 c.in-Some.ensures.steps.1
    c.in_ok-push_cut.ensures c.loop-path.invariant

pub returns : goal.returns
returns c =
    cut-all (iter_rest (zip_first c.loop-path.path-iterator)) (iter_rest (zip_second c.loop-path.path-iterator))
    (map string_bytes c.loop-path.notes.items) _
    (elim c.in-None.ensures.steps [
      | inl ended ↦ inl (nil_from_length _ ended.1.0)
      | inr ended ↦ inr (nil_from_length _ ended.1.0)
    ])
    c.loop-path.invariant
