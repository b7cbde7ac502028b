-- A block's sources are found, or are those of the block before.
use Rattle.std.proofs.Common.{◌≡◌, ◌∙◌, ◌≤◌, ◌++◌, ap, refl, sym, subst, arith, inl, List, ℕ, Option, All, map}
use Rattle.std.proofs.lemmas.List.{map-append}
use Rattle.reh_model.specs.Striping.{striped_entries}
use Rattle.reh_scan.specs.declared.jobs.Reading.{Reading}
use Rattle.reh_scan.specs.Jobs.{source_in}
use Rattle.reh_scan.proofs.JobLaws.{striped_entries-within}
use Rattle.reh_scan.proofs.RepeatLaws.{sources-repeat, stripe-append}
use Rattle.reh_scan.proofs.jobs.find_sources.Goals as goal
use Rattle.reh_scan.proofs.jobs.find_sources.Goals.{then-not-repeats+in_ok-block, else-not-repeats}

pub block_sources-requires-clause-from : goal.block_sources-requires-clause-from
block_sources-requires-clause-from c =
    let r : Reading = c.args.reading.now in
    subst (λ (es : List ℕ). All (λ e. r.first ≤ e) es) (sym c.stripe-then-not-repeats.ensures)
    (λ k d inside.
    omega (
      arith,
      (striped_entries-within c.loop-from.from c.block_end-end.result c.args.index r.size r.write_quorum k d inside).0,
      c.loop-from.invariant.begun,
      c.loop-from.invariant.ordered,
    ))

pub loop-from-preserved : goal.loop-from-preserved
loop-from-preserved c =
    let r : Reading = c.args.reading.now in
    let before : ℕ = c.loop-from.before in
    let from : ℕ = c.loop-from.from in
    let end : ℕ = c.block_end-end.result in
    let entries : ℕ → ℕ → List ℕ = λ a b. striped_entries a b c.args.index r.size r.write_quorum in
    let block : c.if-not-repeats.block.items ≡ map (source_in r) (entries from end) =
    elim c.if-not-repeats.branch [
      | then-not-repeats+in_ok-block w ↦
          (λ j. (w.block-is j).items)
          ∙ w.in_ok-block.ensures ∙ ap (λ (es : List ℕ). map (source_in r) es) w.stripe-then-not-repeats.ensures
      | else-not-repeats w ↦
          (λ j. (w.block-is j).items)
          ∙ c.loop-from.invariant.block
          ∙ sym (sources-repeat r c.rows_of-rows.result c.args.index before from end c.requires c.rows_of-rows.ensures
          (w.if-not-repeats.ensures refl))
    ] in
    let more : c.extend_from_slice.new.self.items ≡ c.loop-from.sources.items ++ c.if-not-repeats.block.items =
    c.in_ok-extend_from_slice.ensures.items ∙ ap (λ (s : List (Option ℕ)). c.loop-from.sources.items ++ s) c.deref.ensures.value in
    record {
      sources =
          more
          ∙ (λ j. c.loop-from.invariant.sources j ++ block j)
          ∙ sym (map-append (source_in r) (entries r.first from) (entries from end))
          ∙ ap (λ (es : List ℕ). map (source_in r) es)
          (stripe-append r.first from end c.args.index r.size r.write_quorum
          (omega (arith, c.loop-from.invariant.begun, c.loop-from.invariant.ordered))
          (omega (arith, c.block_end-end.ensures.later)));
      block = block;
      begun = omega (arith, c.loop-from.invariant.begun, c.loop-from.invariant.ordered);
      ordered = omega (arith, c.block_end-end.ensures.later);
      within = inl c.block_end-end.ensures.within;
    }
