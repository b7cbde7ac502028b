-- One member more is marked where it is registered.
use Rattle.std.proofs.Common.{◌≡◌, ◌∙◌, ◌+◌, ◌<◌, ap, sym, arith, ℕ, Bool, false, List, length, get_or, set, slice_index}
use Rattle.std.proofs.Common.{length-set, inl, inr}
use Rattle.std.proofs.lemmas.Bool.{cases_eq}
use Rattle.std.proofs.lemmas.List.{get_or_read, get_or-set_same, get_or-set_other}
use Rattle.std.proofs.lemmas.Option.{unwrap_or-slice_get}
use Rattle.reh_model.specs.Metadata.{Fragment, Metadata}
use Rattle.reh_model.specs.Cluster.{Cluster, is_up}
use Rattle.reh_step.specs.Marks.{is_marked}
use Rattle.reh_step.proofs.recoveries.registered_members.Goals as goal

marked_more : (marks : List Bool) (f : ℕ → Bool) (i : ℕ) (mark : Bool) → i < length marks → mark ≡ f i
    → ((k : ℕ) → k < i → is_marked marks k ≡ f k) → (k : ℕ) → k < i + 1 → is_marked (set marks i mark) k ≡ f k
marked_more marks f i mark there is below k within =
    unwrap_or-slice_get (set marks i mark) k false ∙ elim (cases_eq k i) [
      | inl same ↦
          ap (λ (j : ℕ). get_or (set marks i mark) j false) same ∙ get_or-set_same marks i mark false there ∙ is
          ∙ ap f (sym same)
      | inr apart ↦
          get_or-set_other marks i k mark false apart ∙ sym (unwrap_or-slice_get marks k false)
          ∙ below k (omega arith)
    ]

pub loop-index-preserved : goal.loop-index-preserved
loop-index-preserved c =
    let s : Cluster = c.args.state.now in
    let fragment : Fragment = c.args.fragment.now in
    let i : ℕ = c.loop-index.index in
    let long = ap (λ (f : Fragment). length f.ensemble) c.fragment.view_is in
    let size = ap (λ (m : Metadata). m.size) c.metadata.ensures in
    let stands : c.index.result.now ≡ slice_index fragment.ensemble i =
    get_or_read c.fragment.inside.ensemble.items i c.index.result.now (omega (arith, c.requires, long, size)) c.index.ensures 0
    ∙ ap (λ (f : Fragment). slice_index f.ensemble i) c.fragment.view_is in
    record {
      whole = length-set c.loop-index.registered i c.is_up.result ∙ c.loop-index.invariant.whole;
      marked =
          marked_more c.loop-index.registered (λ k. is_up s (slice_index fragment.ensemble k)) i c.is_up.result
          (omega arith) (c.is_up.ensures ∙ ap (λ (b : ℕ). is_up s b) stands) c.loop-index.invariant.marked;
    }
