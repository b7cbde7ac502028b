-- Metadata with a new fragment, or another state.
use Rattle.std.proofs.Common.{◌≡◌, ℕ, ◌+◌, ◌-◌, ◌<◌, ◌≤◌, true, false, List, [], ◌∷◌, ◌++◌, map, length, get_or, None, inl, inr, refl, sym, ap, ◌∙◌, subst, arith}
use Rattle.std.specs.Prelude.{◌==◌, slice_get, slice_index}
use Rattle.std.specs.List.{list_any}
use Rattle.std.specs.List.Sorted.{IsStrictlyIncreasing}
use Rattle.std.specs.Option.{ForSome}
use Rattle.std.proofs.Math.ListN.{get_or-append}
use Rattle.std.proofs.Math.Seq.{get_or-append_seam}
use Rattle.std.proofs.lemmas.Bool.{cases_lt}
use Rattle.std.proofs.lemmas.List.{get_or_default, length-append, length-map, length-set, map-append}
use Rattle.std.proofs.lemmas.List.Elements.{All-append, All-cons, All-nil}
use Rattle.std.proofs.lemmas.Option.{unwrap_or-slice_get}
use Rattle.reh_types.specs.declared.limits.TheConstants.{ENTRY_END, MAX_FRAGMENTS, MAX_VERSION}
use Rattle.reh_types.specs.declared.names.LedgerState.{LedgerState}
use Rattle.reh_types.specs.declared.names.LedgerState.TheVariants.{Open, InRecovery, Closed}
use Rattle.reh_model.specs.Metadata.{Metadata, Fragment, IsEnsemble, IsMetadata, is_open, is_in_recovery, end_of_state, last_fragment, with_member, with_fragment_at, with_state, next_version}
use Rattle.reh_model.proofs.MemberLaws.{IsDistinct-set, first-slice_get}

-- an open ledger has no end,
pub no_end-open : (state : LedgerState) → is_open state ≡ true → end_of_state state ≡ None
no_end-open Open is = refl
no_end-open InRecovery is = refl
no_end-open (Closed end) is = cc

-- nor has one in recovery
pub no_end-recovering : (state : LedgerState) → is_in_recovery state ≡ true → end_of_state state ≡ None
no_end-recovering Open is = refl
no_end-recovering InRecovery is = refl
no_end-recovering (Closed end) is = cc

-- a number above the last one, at the end
rising-append : (ns : List ℕ) (n : ℕ) → IsStrictlyIncreasing ns → get_or ns (length ns - 1) 0 < n → IsStrictlyIncreasing (ns ++ n ∷ [])
rising-append ns n rising above k inside =
    let size : length (ns ++ n ∷ []) ≡ length ns + 1 = length-append ns (n ∷ []) in
    let old : (j : ℕ) → j < length ns → slice_index (ns ++ n ∷ []) j ≡ slice_index ns j = get_or-append ns (n ∷ []) 0 in
    elim (cases_lt (k + 1) (length ns)) [
      | inl lt ↦ omega (arith, old k (omega arith), old (k + 1) lt, rising k lt)
      | inr last ↦
          let end : k + 1 ≡ length ns = omega arith in
          let here : slice_index (ns ++ n ∷ []) (k + 1) ≡ n = ap (slice_index (ns ++ n ∷ [])) end ∙ get_or-append_seam ns n [] 0 in
          let before : slice_index ns k ≡ get_or ns (length ns - 1) 0 = ap (slice_index ns) (let e : k ≡ length ns - 1 = omega (arith, end) in e) in
          omega (arith, old k (omega (arith, end)), here, before, above)
    ]

from_zero-append : (fragments : List Fragment) (added : Fragment) → 1 ≤ length fragments → ForSome (slice_get fragments 0) (λ fragment. fragment.first ≡ 0) → ForSome (slice_get (fragments ++ added ∷ []) 0) (λ fragment. fragment.first ≡ 0)
from_zero-append [] added some from_zero = absurd (omega arith)
from_zero-append (x ∷ xs) added some from_zero = from_zero

-- the last fragment, as an element
pub last_fragment-is : (m : Metadata) (d : Fragment) → IsMetadata m → last_fragment m ≡ get_or m.fragments (length m.fragments - 1) d
last_fragment-is m d was =
    let none : Fragment = record { first = 0; ensemble = [] } in
    unwrap_or-slice_get m.fragments (length m.fragments - 1) none ∙ get_or_default m.fragments (length m.fragments - 1) none d (omega (arith, was.some_fragment))

pub IsEnsemble-last : (m : Metadata) → IsMetadata m → IsEnsemble m.size (last_fragment m).ensemble
IsEnsemble-last m was =
    let last = last_fragment m in
    subst (λ (x : Fragment). IsEnsemble m.size x.ensemble) (sym (last_fragment-is m last was)) (was.ensembles (length m.fragments - 1) last (omega (arith, was.some_fragment)))

-- its first entry is one that there can be
pub first-last : (m : Metadata) → IsMetadata m → (last_fragment m).first < ENTRY_END
first-last m was =
    let none : Fragment = record { first = 0; ensemble = [] } in
    subst (λ (x : Fragment). x.first < ENTRY_END) (sym (unwrap_or-slice_get m.fragments (length m.fragments - 1) none))
    (was.firsts (length m.fragments - 1) none (omega (arith, was.some_fragment)))

-- a new fragment above the last one, where there is no end yet, with a bookie that is no member of the last ensemble: the metadata stays well-formed
pub IsMetadata-added : (m : Metadata) (first i b : ℕ) → end_of_state m.state ≡ None → (last_fragment m).first < first → first < ENTRY_END → length m.fragments < MAX_FRAGMENTS
    → list_any (λ member. member == b) (last_fragment m).ensemble ≡ false → m.version < MAX_VERSION → IsMetadata m → IsMetadata (next_version (with_fragment_at m first i b))
IsMetadata-added m first i b no_end above below room new version was =
    let added : Fragment = record (with_member (last_fragment m) i b) { first = first } in
    let size : length (m.fragments ++ added ∷ []) ≡ length m.fragments + 1 = length-append m.fragments (added ∷ []) in
    let last = IsEnsemble-last m was in
    let firsts : List ℕ = map (λ (x : Fragment). x.first) m.fragments in
    let highest : get_or firsts (length firsts - 1) 0 < first =
    subst (λ n. n < first) (first-slice_get m.fragments (length m.fragments - 1) ∙ ap (λ n. get_or firsts (n - 1) 0) (sym (length-map m.fragments (λ (x : Fragment). x.first)))) above in
    record {
      some_acks = was.some_acks;
      acks_within = was.acks_within;
      writes_within = was.writes_within;
      small = was.small;
      version = omega (arith, version);
      some_fragment = omega (arith, size);
      fragments = omega (arith, size, room);
      from_zero = from_zero-append m.fragments added was.some_fragment was.from_zero;
      rising = subst (λ (ns : List ℕ). IsStrictlyIncreasing ns) (sym (map-append (λ (x : Fragment). x.first) m.fragments (added ∷ []))) (rising-append firsts first was.rising highest);
      firsts = All-append (λ x. x.first < ENTRY_END) m.fragments (added ∷ []) was.firsts (All-cons (λ x. x.first < ENTRY_END) added [] below (All-nil (λ x. x.first < ENTRY_END)));
      ensembles = All-append (λ x. IsEnsemble m.size x.ensemble) m.fragments (added ∷ []) was.ensembles (All-cons (λ x. IsEnsemble m.size x.ensemble) added []
          (record { whole = length-set (last_fragment m).ensemble i b ∙ last.whole; different = IsDistinct-set (last_fragment m).ensemble i b new last.different }) (All-nil (λ x. IsEnsemble m.size x.ensemble)));
      end = λ end is. cc;
    }

-- another state, whose end, if it has one, is at or after the last fragment's first entry: the metadata stays well-formed
pub IsMetadata-state : (m : Metadata) (state : LedgerState) → ForSome (end_of_state state) (λ end. ((last_fragment m).first ≤ end) × (end ≤ ENTRY_END)) → m.version < MAX_VERSION → IsMetadata m → IsMetadata (next_version (with_state m state))
IsMetadata-state m state end version was = record {
  some_acks = was.some_acks;
  acks_within = was.acks_within;
  writes_within = was.writes_within;
  small = was.small;
  version = omega (arith, version);
  some_fragment = was.some_fragment;
  fragments = was.fragments;
  from_zero = was.from_zero;
  rising = was.rising;
  firsts = was.firsts;
  ensembles = was.ensembles;
  end = end;
}
