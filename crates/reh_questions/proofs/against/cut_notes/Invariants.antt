-- The notes on the files that are passed, and on those that are left.
use Rattle.std.proofs.Common.{◌≡◌, ◌++◌, map, string_bytes}
use Rattle.std.specs.Iterator.Adapters.{zip_first, zip_second}
use Rattle.std.specs.Slice.Iter.{iter_rest}
use Rattle.reh_questions.specs.Against.{cut_notes}
use Rattle.reh_questions.proofs.against.cut_notes.Given as goal

abbrev pub invariant-loop-path : goal.invariant-loop-path
invariant-loop-path l =
    map string_bytes l.notes.items
    ++ cut_notes (iter_rest (zip_first l.path-iterator)) (iter_rest (zip_second l.path-iterator))
    ≡ cut_notes l.files l.kinds
