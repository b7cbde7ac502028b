-- A member's words follow those of the members before it.
use Rattle.std.proofs.Common.{arith, ◌≡◌, ◌∙◌, ◌+◌, ◌-◌, ◌*◌, ◌/◌, ◌<◌, ◌≤◌, ap, subst, List, [], ◌∷◌, ◌++◌, ℕ, length}
use Rattle.std.proofs.Common.{slice_index}
use Rattle.std.proofs.lemmas.List.{get_or_read, length-append}
use Rattle.reh_held.specs.Rows.{is_set}
use Rattle.reh_model.specs.Cluster.{Cluster, is_source}
use Rattle.reh_model.specs.Metadata.{Fragment}
use Rattle.reh_scan.specs.Jobs.{has_copy}
use Rattle.reh_scan.proofs.JobLaws.{has_copy-pushed}
use Rattle.reh_scan.proofs.jobs.copy_rows.Goals as goal

pub loop-bookie-preserved : goal.loop-bookie-preserved
loop-bookie-preserved c =
    let s : Cluster = c.args.state.now in
    let ledger : ℕ = c.args.ledger.now.id in
    let fragment : Fragment = c.args.fragment.now in
    let stop : ℕ = c.args.stop in
    let i : ℕ = c.loop-bookie.bookie-index in
    let before : List (List ℕ) = c.loop-bookie.rows.items in
    let words : List ℕ = c.in_ok-copy_words.field-0 in
    let row : List ℕ = c.source_row-row.result.now in
    let copied : (entry : ℕ) → fragment.first ≤ entry → entry < stop
    → is_set words (entry - 64 * (fragment.first / 64)) ≡ is_set row entry =
    subst (λ (first : ℕ). (entry : ℕ) → first ≤ entry → entry < stop
    → is_set words (entry - 64 * (first / 64)) ≡ is_set row entry)
    (ap (λ (f : Fragment). f.first) c.fragment.view_is) c.in_ok-copy_words.ensures in
    let member : c.bookie-item.result ≡ slice_index fragment.ensemble i =
    get_or_read c.deref-bookie-items.result.now i c.bookie-item.result (omega arith) c.bookie-item.is 0
    ∙ ap (λ (members : List ℕ). slice_index members i)
    (c.deref-bookie-items.ensures.value ∙ ap (λ (f : Fragment). f.ensemble) c.fragment.view_is) in
    let same : (index entry : ℕ) → index < i + 1 → fragment.first ≤ entry → entry < stop
    → has_copy fragment.first (before ++ words ∷ []) entry index
    ≡ is_source s ledger entry (slice_index fragment.ensemble index) =
    has_copy-pushed s ledger fragment.first stop fragment.ensemble before words i c.loop-bookie.invariant.size
    c.loop-bookie.invariant.same
    (λ entry from below. copied entry from below ∙ c.source_row-row.ensures entry
    ∙ ap (λ bookie. is_source s ledger entry bookie) member) in
    record {
      size =
          ap (λ (rows : List (List ℕ)). length rows) c.in_ok-push.ensures.items
          ∙ omega (arith, length-append before (words ∷ []), c.loop-bookie.invariant.size);
      same = λ index entry inside from below.
          ap (λ (rows : List (List ℕ)). has_copy fragment.first rows entry index) c.in_ok-push.ensures.items
          ∙ same index entry inside from below;
    }
