-- A block's sources are looked at, or are those of the block before.
use Rattle.std.proofs.Common.{rules, ◌≡◌, ◌∙◌, ◌++◌, ap, refl, sym, subst, arith, inl, inr, List, ℕ, Option}
use Rattle.std.proofs.Common.{None, map, min, take, drop, length}
use Rattle.std.specs.List.{zip}
use Rattle.std.specs.Option.{option_or}
use Rattle.reh_types.specs.declared.contents.Content.{Content}
use Rattle.reh_types.specs.declared.refusals.Refusal.{Refusal}
use Rattle.reh_model.specs.Checks.{first_reason}
use Rattle.reh_model.specs.Cluster.{Cluster, Ledger}
use Rattle.reh_model.specs.Metadata.{Metadata, IsMetadata}
use Rattle.reh_model.specs.Striping.{striped_entries}
use Rattle.reh_scan.specs.Blocks.{IsRepeated}
use Rattle.reh_scan.specs.Posts.{lost_copy}
use Rattle.reh_scan.proofs.CopyLaws.{zip-nil}
use Rattle.reh_scan.proofs.PostLaws.{lost_source-rows}
use Rattle.reh_scan.proofs.RepeatLaws.{IsCut, cut-equal, cut-min, cut-none, cut-whole, lost-append, none_lost-repeat, stripe-append}
use Rattle.reh_scan.proofs.RepeatLaws.{stripe-moved-length, stripe-none, zip-take}
use Rattle.reh_scan.proofs.posts.check_sources.Goals as goal
use Rattle.reh_scan.proofs.posts.check_sources.Goals.{then-repeats+then-begins_with, else-repeats+in_ok-count}

pub loop-from-init : goal.loop-from-init
loop-from-init c =
    let s : Cluster = c.args.state.now in
    let g : Ledger = c.args.ledger.now in
    let content : Content = c.args.content.now in
    let m : Metadata = c.metadata-metadata.result.now in
    let same : m ≡ g.metadata = c.metadata-metadata.ensures in
    let none = stripe-none content.first content.aim.index m.size m.write_quorum in
    record {
      lost = λ j. first_reason
          (map
          (λ p.
          lost_source-rows s g c.args.fragment.now c.source_rows-rows.result m same c.source_rows-rows.ensures.well_formed
          c.source_rows-rows.ensures.rows p.0 p.1 j)
          (zip
          (striped_entries content.first content.stop content.aim.index (sym same j).size (sym same j).write_quorum)
          (sym c.as_slice-sources.ensures j)));
      block =
          ap (λ ps. first_reason (map (lost_copy c.source_rows-rows.result m c.args.fragment.now) ps)) (zip-nil _ _ refl);
      whole = inl (sym (ap (λ (es : List ℕ). length es) none));
      ordered = omega arith;
      within = inr refl;
    }

pub returns-in_err-count : goal.returns-in_err-count
returns-in_err-count c =
    let content : Content = c.args.content.now in
    let m : Metadata = c.metadata-metadata.result.now in
    let lost : ℕ × Option ℕ → Option Refusal = lost_copy c.source_rows-rows.result m c.args.fragment.now in
    let sources : List (Option ℕ) = c.loop-from.sources.now in
    let from : ℕ = c.loop-from.from in
    let end : ℕ = c.block_end-end.result in
    let entries : ℕ → ℕ → List ℕ = λ a b. striped_entries a b content.aim.index m.size m.write_quorum in
    let all : entries from end ++ entries end content.stop ≡ entries from content.stop =
    stripe-append from end content.stop content.aim.index m.size m.write_quorum
    (omega (arith, c.block_end-end.ensures.later)) c.block_end-end.ensures.within in
    let refused =
    c.loop-from.invariant.lost
    ∙ ap (λ (es : List ℕ). first_reason (map lost (zip es sources))) (sym all)
    ∙ lost-append lost (entries from end) (entries end content.stop) sources
    ∙ ap (λ reason.
    option_or reason
    (first_reason (map lost (zip (entries end content.stop) (drop (length (entries from end)) sources)))))
    (ap (λ (es : List ℕ). first_reason (map lost (zip es sources))) (sym c.stripe-entries.ensures.entries)
    ∙ c.in_err-count.ensures) in
    search (rules, refused)

pub loop-from-preserved : goal.loop-from-preserved
loop-from-preserved c =
    let content : Content = c.args.content.now in
    let m : Metadata = c.metadata-metadata.result.now in
    let rows = c.source_rows-rows.result in
    let lost : ℕ × Option ℕ → Option Refusal = lost_copy rows m c.args.fragment.now in
    let sources : List (Option ℕ) = c.loop-from.sources.now in
    let before : ℕ = c.loop-from.before in
    let from : ℕ = c.loop-from.from in
    let end : ℕ = c.block_end-end.result in
    let count : ℕ = c.if-repeats.count in
    let entries : ℕ → ℕ → List ℕ = λ a b. striped_entries a b content.aim.index m.size m.write_quorum in
    let n : ℕ = length (entries from end) in
    let rules_of : IsMetadata m = c.size-size.ensures.well_formed in
    let all : entries from end ++ entries end content.stop ≡ entries from content.stop =
    stripe-append from end content.stop content.aim.index m.size m.write_quorum
    (omega (arith, c.block_end-end.ensures.later)) c.block_end-end.ensures.within in
    let found : IsCut count n sources × (first_reason (map lost (zip (entries from end) (take n sources))) ≡ None) =
    elim c.if-repeats.branch [
      | then-repeats+then-begins_with w ↦
          let repeated : IsRepeated rows m.size 0 before from end =
          subst (λ (size : ℕ). IsRepeated rows size 0 before from end) c.size-size.ensures.size
          (w.if-repeats.ensures refl) in
          let long = stripe-moved-length before from end content.aim.index m.size m.write_quorum repeated.before
          repeated.here in
          let cut : IsCut count n sources = elim c.loop-from.invariant.whole [
            | inl is ↦ cut-equal count n sources (w.count-is ∙ is ∙ long)
            | inr none ↦ cut-none count n sources none
          ] in (
            cut,
            ap (λ (zs : List (Option ℕ)). first_reason (map lost (zip (entries from end) zs)))
                (sym cut.first ∙ ap (λ k. take k sources) w.count-is ∙ w.if-begins_with.ensures.same refl)
                ∙ none_lost-repeat rows m c.args.fragment.now content.aim.index before from end c.loop-from.block.now rules_of
                repeated c.loop-from.invariant.block,
          )
      | else-repeats+in_ok-count w ↦
          let checked = w.in_ok-count.ensures in (
            cut-min count n sources
                (w.count-is
                ∙ checked.1
                ∙ ap (λ (es : List ℕ). min (length es) (length sources)) w.stripe-entries.ensures.entries),
            ap (λ ps. first_reason (map lost ps)) (zip-take (entries from end) sources)
                ∙ ap (λ (es : List ℕ). first_reason (map lost (zip es sources))) (sym w.stripe-entries.ensures.entries)
                ∙ checked.0,
          )
    ] in
    let cut : IsCut count n sources = found.0 in
    record {
      lost =
          c.loop-from.invariant.lost
          ∙ ap (λ (es : List ℕ). first_reason (map lost (zip es sources))) (sym all)
          ∙ lost-append lost (entries from end) (entries end content.stop) sources
          ∙ ap (λ reason.
          option_or reason (first_reason (map lost (zip (entries end content.stop) (drop n sources)))))
          (ap (λ ps. first_reason (map lost ps)) (sym (zip-take (entries from end) sources)) ∙ found.1)
          ∙ ap (λ (zs : List (Option ℕ)). first_reason (map lost (zip (entries end content.stop) zs)))
          (sym cut.behind ∙ sym c.split_at.ensures.back);
      block =
          ap (λ (zs : List (Option ℕ)). first_reason (map lost (zip (entries from end) zs)))
          (c.split_at.ensures.front ∙ cut.first)
          ∙ found.1;
      whole = elim (cut-whole n sources) [
        | inl is ↦ inl (ap (λ (zs : List (Option ℕ)). length zs) (c.split_at.ensures.front ∙ cut.first) ∙ is)
        | inr none ↦ inr (c.split_at.ensures.back ∙ cut.behind ∙ none)
      ];
      ordered = omega (arith, c.block_end-end.ensures.later);
      within = inl c.block_end-end.ensures.within;
    }
