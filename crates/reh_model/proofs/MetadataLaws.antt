-- The rules of metadata: as tests, and as what holds of well-formed metadata.
use Rattle.std.proofs.Common.{◌≡◌, ℕ, zero, suc, ◌+◌, ◌<◌, ◌≤◌, Bool, true, false, not, unwrap_or, get_or, ◌&&◌, List, [], ◌∷◌, map, length, Option, None, Some, nat_eq, nat_lt, nat_le, ◌||◌, All, refl, sym, ap, ◌∙◌, arith}
use Rattle.std.specs.Prelude.{◌==◌, slice_get, slice_index}
use Rattle.std.specs.List.{list_any, list_all, IsDistinct, AllByRecursion}
use Rattle.std.specs.List.Sorted.{IsStrictlyIncreasing}
use Rattle.std.specs.Option.{ForSome, option_map_or}
use Rattle.std.proofs.lemmas.Bool.Decides.{nat_tests}
use Rattle.std.proofs.lemmas.List.Sums.{AllPass-from_list_all, list_all-from_AllPass}
use Rattle.reh_types.specs.declared.limits.TheConstants.{ENTRY_END, MAX_ENSEMBLE_SIZE, MAX_FRAGMENTS, MAX_VERSION}
use Rattle.reh_model.specs.Metadata.{Fragment, Metadata, IsMetadata, IsEnsemble, last_of, last_fragment, end_of_state, are_quorums, are_rising, rise_from_zero, are_different, is_ensemble, ends_within}

-- both parts of a test that passes
both : (a b : Bool) → (a && b) ≡ true → (a ≡ true) × (b ≡ true)
both true b passes = (refl, passes)
both false b passes = cc

pub record AreQuorums (size write_quorum ack_quorum : ℕ) : Type 0 where
  pub some_acks : 1 ≤ ack_quorum
  pub acks_within : ack_quorum ≤ write_quorum
  pub writes_within : write_quorum ≤ size
  pub small : size ≤ MAX_ENSEMBLE_SIZE

are_quorums-is : (n w a : ℕ) → are_quorums n w a ≡ true → AreQuorums n w a
are_quorums-is n w a passes =
    let small : ((nat_le 1 a && nat_le a w && nat_le w n) ≡ true) × (nat_le n MAX_ENSEMBLE_SIZE ≡ true) = both _ _ passes in
    let writes : ((nat_le 1 a && nat_le a w) ≡ true) × (nat_le w n ≡ true) = both _ _ small.0 in
    let acks : (nat_le 1 a ≡ true) × (nat_le a w ≡ true) = both _ _ writes.0 in
    record { some_acks = grind (arith, nat_tests, acks.0); acks_within = grind (arith, nat_tests, acks.1); writes_within = grind (arith, nat_tests, writes.1); small = grind (arith, nat_tests, small.1) }

none_equal : (b : ℕ) (bs : List ℕ) → not (list_any (λ other. other == b) bs) ≡ true → AllByRecursion (λ other. nat_eq b other ≡ false) bs
none_equal b [] none = tt
none_equal b (other ∷ bs) none =
    elim (other == b) as (λ same. (other == b) ≡ same → not (same || list_any (λ other. other == b) bs) ≡ true → AllByRecursion (λ other. nat_eq b other ≡ false) (other ∷ bs)) [
      | true ↦ λ _ none. cc
      | false ↦ λ apart none. (grind (arith, nat_tests, apart), none_equal b bs none)
    ] refl none

are_different-is : (bs : List ℕ) → are_different bs ≡ true → IsDistinct nat_eq bs
unfolding IsDistinct
are_different-is [] passes = tt
are_different-is (b ∷ bs) passes =
    let parts = both _ _ passes in
    (none_equal b bs parts.0, are_different-is bs parts.1)

abbrev firsts_of : List Fragment → List ℕ
firsts_of fragments = map (λ fragment. fragment.first) fragments

are_rising-is : (fragments : List Fragment) → are_rising fragments ≡ true → IsStrictlyIncreasing (firsts_of fragments)
are_rising-is [] passes = λ k inside. absurd (omega arith)
are_rising-is (x ∷ []) passes = λ k inside. absurd (omega arith)
are_rising-is (x ∷ y ∷ fragments) passes =
    let parts : (nat_lt x.first y.first ≡ true) × (are_rising (y ∷ fragments) ≡ true) = both _ _ passes in
    λ k. elim k as (λ k. k + 1 < length (firsts_of (x ∷ y ∷ fragments)) → slice_index (firsts_of (x ∷ y ∷ fragments)) k < slice_index (firsts_of (x ∷ y ∷ fragments)) (k + 1)) [
      | zero ↦ λ _. grind (arith, nat_tests, parts.0)
      | suc k ↦ λ inside.
          let next : slice_index (firsts_of (x ∷ y ∷ fragments)) (suc k + 1) ≡ slice_index (firsts_of (y ∷ fragments)) (k + 1) =
          ap (λ j. slice_index (firsts_of (x ∷ y ∷ fragments)) j) (let e : suc k + 1 ≡ suc (k + 1) = omega arith in e) in
          let rest : slice_index (firsts_of (y ∷ fragments)) k < slice_index (firsts_of (y ∷ fragments)) (k + 1) = are_rising-is (y ∷ fragments) parts.1 k (omega arith) in
          rw next rest
    ]

pub record RiseFromZero (fragments : List Fragment) : Type 0 where
  pub some_fragment : 1 ≤ length fragments
  pub from_zero : ForSome (slice_get fragments 0) (λ fragment. fragment.first ≡ 0)
  pub rising : IsStrictlyIncreasing (firsts_of fragments)

rise_from_zero-is : (fragments : List Fragment) → rise_from_zero fragments ≡ true → RiseFromZero fragments
rise_from_zero-is [] passes = cc
rise_from_zero-is (x ∷ fragments) passes =
    let parts : ((x.first == 0) ≡ true) × (are_rising (x ∷ fragments) ≡ true) = both _ _ passes in
    let zero_first : x.first ≡ 0 = grind (arith, nat_tests, parts.0) in
    record {
      some_fragment = omega arith;
      from_zero = λ found is. let same : x ≡ found = cc in ap (λ (fragment : Fragment). fragment.first) (sym same) ∙ zero_first;
      rising = are_rising-is (x ∷ fragments) parts.1;
    }

are_ensembles-is : (n : ℕ) (fragments : List Fragment) → list_all (λ fragment. is_ensemble n fragment.ensemble) fragments ≡ true → All (λ fragment. IsEnsemble n fragment.ensemble) fragments
are_ensembles-is n fragments passes k d inside =
    let here = AllPass-from_list_all (λ fragment. is_ensemble n fragment.ensemble) fragments passes k d inside in
    let parts : ((length (get_or fragments k d).ensemble == n) ≡ true) × (are_different (get_or fragments k d).ensemble ≡ true) = both _ _ here in
    record { whole = grind (arith, nat_tests, parts.0); different = are_different-is _ parts.1 }

last_within : (last : Option Fragment) (end : ℕ) → option_map_or (λ last. nat_le last.first end) last true ≡ true → (unwrap_or last (record { first = 0; ensemble = [] })).first ≤ end
last_within None end passes = omega arith
last_within (Some last) end passes = grind (arith, nat_tests, passes)

ends_within-is : (m : Metadata) → ends_within m.state m.fragments ≡ true → ForSome (end_of_state m.state) (λ end. (last_fragment m).first ≤ end)
ends_within-is m passes end is =
    let within : option_map_or (λ last. nat_le last.first end) (last_of m.fragments) true ≡ true =
    ap (λ (o : Option ℕ). option_map_or (λ end. option_map_or (λ last. nat_le last.first end) (last_of m.fragments) true) o true) (sym is) ∙ passes in
    last_within (last_of m.fragments) end within

-- the four rules, as tests
pub record KeepsRules (m : Metadata) : Type 0 where
  pub quorums : are_quorums m.size m.write_quorum m.ack_quorum ≡ true
  pub fragments : rise_from_zero m.fragments ≡ true
  pub ensembles : list_all (λ fragment. is_ensemble m.size fragment.ensemble) m.fragments ≡ true
  pub end : ends_within m.state m.fragments ≡ true

-- metadata within the limits that keeps the rules is well-formed
pub IsMetadata-from_rules : (m : Metadata) → KeepsRules m → m.version ≤ MAX_VERSION → ForSome (end_of_state m.state) (λ end. end ≤ ENTRY_END) → length m.fragments ≤ MAX_FRAGMENTS → All (λ fragment. fragment.first < ENTRY_END) m.fragments → IsMetadata m
IsMetadata-from_rules m rules version end count firsts =
    let quorums = are_quorums-is m.size m.write_quorum m.ack_quorum rules.quorums in
    let rise = rise_from_zero-is m.fragments rules.fragments in
    record {
      some_acks = quorums.some_acks;
      acks_within = quorums.acks_within;
      writes_within = quorums.writes_within;
      small = quorums.small;
      version = version;
      some_fragment = rise.some_fragment;
      fragments = count;
      from_zero = rise.from_zero;
      rising = rise.rising;
      firsts = firsts;
      ensembles = are_ensembles-is m.size m.fragments rules.ensembles;
      end = λ stop is. (ends_within-is m rules.end stop is, end stop is);
    }

-- And back

and_true : (a b : Bool) → a ≡ true → b ≡ true → (a && b) ≡ true
and_true a b first second = λ i. first i && second i

are_quorums-passes : (n w a : ℕ) → 1 ≤ a → a ≤ w → w ≤ n → n ≤ MAX_ENSEMBLE_SIZE → are_quorums n w a ≡ true
are_quorums-passes n w a some_acks acks_within writes_within small =
    let some_acks : nat_le 1 a ≡ true = grind (arith, nat_tests) in
    let acks : nat_le a w ≡ true = grind (arith, nat_tests) in
    let writes : nat_le w n ≡ true = grind (arith, nat_tests) in
    let small : nat_le n MAX_ENSEMBLE_SIZE ≡ true = grind (arith, nat_tests) in
    λ i. some_acks i && acks i && writes i && small i

none_equal-passes : (b : ℕ) (bs : List ℕ) → AllByRecursion (λ other. nat_eq b other ≡ false) bs → not (list_any (λ other. other == b) bs) ≡ true
none_equal-passes b [] apart = refl
none_equal-passes b (other ∷ bs) apart =
    let here : (other == b) ≡ false = grind (arith, nat_tests, apart.0) in
    ap (λ same. not (same || list_any (λ other. other == b) bs)) here ∙ none_equal-passes b bs apart.1

are_different-passes : (bs : List ℕ) → IsDistinct nat_eq bs → are_different bs ≡ true
unfolding IsDistinct
are_different-passes [] different = refl
are_different-passes (b ∷ bs) different = and_true _ _ (none_equal-passes b bs different.0) (are_different-passes bs different.1)

are_rising-passes : (fragments : List Fragment) → IsStrictlyIncreasing (firsts_of fragments) → are_rising fragments ≡ true
are_rising-passes [] rising = refl
are_rising-passes (x ∷ []) rising = refl
are_rising-passes (x ∷ y ∷ fragments) rising =
    let here : x.first < y.first = rising 0 (omega arith) in
    let first : nat_lt x.first y.first ≡ true = grind (arith, nat_tests, here) in
    and_true _ _ first (are_rising-passes (y ∷ fragments) (λ k inside.
    let next : slice_index (firsts_of (x ∷ y ∷ fragments)) (suc k + 1) ≡ slice_index (firsts_of (y ∷ fragments)) (k + 1) =
    ap (λ j. slice_index (firsts_of (x ∷ y ∷ fragments)) j) (let e : suc k + 1 ≡ suc (k + 1) = omega arith in e) in
    rw next at (rising (suc k) (omega arith))))

rise_from_zero-passes : (fragments : List Fragment) → 1 ≤ length fragments → ForSome (slice_get fragments 0) (λ fragment. fragment.first ≡ 0) → IsStrictlyIncreasing (firsts_of fragments) → rise_from_zero fragments ≡ true
rise_from_zero-passes [] some from_zero rising = absurd (omega arith)
rise_from_zero-passes (x ∷ fragments) some from_zero rising =
    let zero_first : x.first ≡ 0 = from_zero x refl in
    and_true _ _ (grind (arith, nat_tests, zero_first)) (are_rising-passes (x ∷ fragments) rising)

are_ensembles-passes : (n : ℕ) (fragments : List Fragment) → All (λ fragment. IsEnsemble n fragment.ensemble) fragments → list_all (λ fragment. is_ensemble n fragment.ensemble) fragments ≡ true
are_ensembles-passes n fragments each = list_all-from_AllPass (λ fragment. is_ensemble n fragment.ensemble) fragments (λ k d inside.
    let is = each k d inside in
    and_true _ _ (grind (arith, nat_tests, is.whole)) (are_different-passes _ is.different))

ends_within-passes : (last : Option Fragment) (end : Option ℕ) → ForSome end (λ end. (unwrap_or last (record { first = 0; ensemble = [] })).first ≤ end)
    → option_map_or (λ end. option_map_or (λ last. nat_le last.first end) last true) end true ≡ true
ends_within-passes last None within = refl
ends_within-passes None (Some end) within = refl
ends_within-passes (Some last) (Some end) within =
    let first : last.first ≤ end = within end refl in
    grind (arith, nat_tests, first)

-- well-formed metadata keeps the rules
pub KeepsRules-from_IsMetadata : (m : Metadata) → IsMetadata m → KeepsRules m
KeepsRules-from_IsMetadata m is = record {
  quorums = are_quorums-passes m.size m.write_quorum m.ack_quorum is.some_acks is.acks_within is.writes_within is.small;
  fragments = rise_from_zero-passes m.fragments is.some_fragment is.from_zero is.rising;
  ensembles = are_ensembles-passes m.size m.fragments is.ensembles;
  end = ends_within-passes (last_of m.fragments) (end_of_state m.state) (λ end ends. (is.end end ends).0);
}
