-- While no bit differs, the sources are the same if those that are left are.
use Rattle.std.proofs.Common.{◌≡◌, length}
use Rattle.std.specs.Iterator.Adapters.{zip_first, zip_second}
use Rattle.std.specs.Slice.Iter.{iter_rest}
use Rattle.reh_scan.proofs.posts.are_same.Given as goal

abbrev pub invariant-loop-source : goal.invariant-loop-source
invariant-loop-source l = record {
  same : l.differing ≡ 0 → iter_rest (zip_first l.source-iterator) ≡ iter_rest (zip_second l.source-iterator)
      → l.sources ≡ l.others;
  long : length (iter_rest (zip_first l.source-iterator)) ≡ length (iter_rest (zip_second l.source-iterator));
}
