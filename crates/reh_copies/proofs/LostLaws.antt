-- How many entries a survey calls lost, and how many have no known copy.
use Rattle.std.proofs.Common.{◌≡◌, ℕ, suc, ◌+◌, ◌-◌, ◌<◌, true, not, List, [], ◌∷◌, map, length, Option, None, Some, refl, sym, ap, ◌∙◌, arith, nat_lt, append-nil}
use Rattle.std.specs.Prelude.{All, count_by, slice_get, sum_by, unwrap_or, max, if◌then◌else◌}
use Rattle.std.specs.List.{enumerate_from, flat_map, range_with_len}
use Rattle.std.specs.Option.{option_map, option_map_or, option_or}
use Rattle.std.proofs.lemmas.Bool.Decides.{nat_tests}
use Rattle.std.proofs.lemmas.List.Elements.{All-head, All-tail}
use Rattle.std.proofs.lemmas.List.Sums.{sum_by-append, sum_by-cons}
use Rattle.std.proofs.lemmas.Option.{slice_get_within}
use Rattle.reh_types.specs.declared.names.LedgerState.{LedgerState}
use Rattle.reh_types.specs.declared.names.LedgerState.TheVariants.{Open, InRecovery, Closed}
use Rattle.reh_model.specs.Metadata.{Fragment, IsMetadata, end_of_state, stop_of}
use Rattle.reh_model.specs.Cluster.{Cluster, Ledger, is_readable}
use Rattle.reh_model.specs.Survey.{line_of, lines_of, lost_of, survey}
use Rattle.reh_census.specs.Striping.{range}
use Rattle.reh_census.specs.Ledgers.{Ledger as CountedLedger}
use Rattle.reh_census.specs.Counting.{count_entries, count_fragment, count_ledger}
use Rattle.reh_picture.specs.declared.listings.Listed.{Listed}
use Rattle.reh_picture.specs.Counts.{is_closed}
use Rattle.reh_inputs.specs.declared.ledgers.Reading.{Reading}
use Rattle.reh_inputs.specs.declared.ledgers.Reading.TheVariants as readings
use Rattle.reh_inputs.specs.declared.inputs.Input.TheVariants.{Picture}
use Rattle.reh_inputs.specs.Gathered.{holders_of, ledgers_of}
use Rattle.reh_inputs.specs.Ledgers.{end_told, first_of}
use Rattle.reh_copies.specs.Alone.{NoneEmpty, fragment_alone, has_no_copy, ledger_alone, lost_in, without_copy}
use Rattle.reh_copies.proofs.CountLaws.{sum_by-map}
use Rattle.reh_copies.proofs.ReadableLaws.{IsAlike, IsTold, IsTold-closed, readable-known}

-- Sums

sum_by-flat_map : {X Y : Type 0} (f : Y → ℕ) (h : X → List Y) (xs : List X)
    → sum_by f (flat_map h xs) ≡ sum_by (λ x. sum_by f (h x)) xs
sum_by-flat_map f h [] = refl
sum_by-flat_map f h (x ∷ xs) =
    sum_by-append f (h x) (flat_map h xs) ∙ ap (λ n. sum_by f (h x) + n) (sum_by-flat_map f h xs)
    ∙ sym (sum_by-cons (λ x. sum_by f (h x)) x xs)

-- sums of what is the same of each element
sum_by-each : {X : Type 0} (P : X → Type 0) (f h : X → ℕ) → ((x : X) → P x → f x ≡ h x) → (xs : List X) → All P xs
    → sum_by f xs ≡ sum_by h xs
sum_by-each P f h same [] all = refl
sum_by-each P f h same (x ∷ xs) all =
    sum_by-cons f x xs
    ∙ (λ i. same x (All-head P x xs all) i + sum_by-each P f h same xs (All-tail P x xs all) i)
    ∙ sym (sum_by-cons h x xs)

-- Fragments

-- each fragment of a closed ledger has a stop
closed_end : (state : LedgerState) → is_closed state ≡ true → (first : Option ℕ)
    → (stop : ℕ) × (option_or first (end_of_state state) ≡ Some stop)
closed_end Open closed first = cc
closed_end InRecovery closed first = cc
closed_end (Closed end) closed None = (end, refl)
closed_end (Closed end) closed (Some first) = (first, refl)

module _ (s : Cluster) (l : Listed) (alike : IsAlike s l) (none_empty : NoneEmpty l) (reading : Reading) (g : Ledger)
    (formed : IsMetadata g.metadata) (told : IsTold reading l g) where
  -- where a fragment has a stop, its lost entries are those with no known copy
  pub lost-without_copy : (f : ℕ) (fragment : Fragment) → slice_get g.metadata.fragments f ≡ Some fragment
      → lost_of s g f fragment ≡ option_map (λ _. without_copy reading l g f) (stop_of g.metadata f)
  lost-without_copy f fragment there = by (stop_of g.metadata f) refl where
    by : (stop : Option ℕ) → stop_of g.metadata f ≡ stop
        → option_map (λ stop. count_by (λ e. not (is_readable s g fragment e)) (range fragment.first stop)) stop
        ≡ option_map (λ _. without_copy reading l g f) stop
    by None is = refl
    by (Some stop) is =
        let first : fragment.first ≡ first_of g.metadata f =
        ap (λ (o : Option Fragment). option_map_or (λ fragment. fragment.first) o 0) (sym there) in
        let end : stop ≡ (fragment_alone l g f).stop =
        ap (λ (o : Option ℕ). unwrap_or o (max (first_of g.metadata f) (end_told g.id l.listing.holdings.items))) (sym is) in
        λ i.
        Some
        (count_by (λ e. not (readable-known s l alike none_empty reading g formed told f fragment there e i))
        (range (first i) (end i)))

  -- so it is of a fragment with a stop
  pub lost-stop : (f : ℕ) (fragment : Fragment) (stop : ℕ) → slice_get g.metadata.fragments f ≡ Some fragment
      → stop_of g.metadata f ≡ Some stop → lost_of s g f fragment ≡ Some (without_copy reading l g f)
  lost-stop f fragment stop there is =
      lost-without_copy f fragment there ∙ ap (λ (o : Option ℕ). option_map (λ _. without_copy reading l g f) o) is

  module _ (closed : is_closed g.metadata.state ≡ true) where
    -- and of each of a closed ledger
    pub lost-closed : (f : ℕ) (fragment : Fragment) → slice_get g.metadata.fragments f ≡ Some fragment
        → lost_of s g f fragment ≡ Some (without_copy reading l g f)
    lost-closed f fragment there =
        let within : f < length g.metadata.fragments = slice_get_within g.metadata.fragments f fragment there in
        let inside : nat_lt f (length g.metadata.fragments) ≡ true = grind (arith, nat_tests, within) in
        let next : Option ℕ = option_map (λ (next : Fragment). next.first) (slice_get g.metadata.fragments (f + 1)) in
        let end = closed_end g.metadata.state closed next in
        lost-stop f fragment end.0 there
        (ap (λ b. if b then option_or next (end_of_state g.metadata.state) else None) inside ∙ end.1)

    -- from a fragment on
    lost_from : (k : ℕ) (fragments : List Fragment) → k + length fragments ≡ length g.metadata.fragments
        → ((j : ℕ) → slice_get g.metadata.fragments (k + j) ≡ slice_get fragments j)
        → sum_by (λ (p : ℕ × Fragment). unwrap_or (lost_of s g p.0 p.1) 0) (enumerate_from k fragments)
        ≡ sum_by (without_copy reading l g) (range_with_len k (length fragments))
    lost_from k [] end there = refl
    lost_from k (fragment ∷ fragments) end there =
        let here : k + 0 ≡ k = omega arith in
        let first : slice_get g.metadata.fragments k ≡ Some fragment =
        ap (slice_get g.metadata.fragments) (sym here) ∙ there 0 in
        sum_by-cons (λ (p : ℕ × Fragment). unwrap_or (lost_of s g p.0 p.1) 0) (k, fragment) (enumerate_from (k + 1) fragments)
        ∙ (λ i. unwrap_or (lost-closed k fragment first i) 0
        + lost_from (k + 1) fragments (omega (arith, end)) (λ j.
        let next : (k + 1) + j ≡ k + suc j = omega arith in
        ap (slice_get g.metadata.fragments) next ∙ there (suc j)) i)
        ∙ sym (sum_by-cons (without_copy reading l g) k (range_with_len (k + 1) (length fragments)))

    -- of all fragments of a ledger
    pub lost-ledger : sum_by lost_in (lines_of s g)
        ≡ count_ledger (holders_of (Picture l ∷ [])) has_no_copy (ledger_alone reading l g)
    lost-ledger =
        let fragments = g.metadata.fragments in
        let long : length fragments ≡ length fragments - 0 = omega arith in
        sum_by-map lost_in (λ (p : ℕ × Fragment). line_of s g p.0 p.1) (enumerate_from 0 fragments)
        ∙ lost_from 0 fragments (omega arith) (λ j. let start : 0 + j ≡ j = omega arith in ap (slice_get fragments) start)
        ∙ ap (λ n. sum_by (without_copy reading l g) (range_with_len 0 n)) long
        ∙ sym (sum_by-map (count_fragment (holders_of (Picture l ∷ [])) (ledger_alone reading l g) has_no_copy)
        (fragment_alone l g) (range 0 (length fragments)))

-- The picture

-- of all ledgers, where each is closed
pub lost-picture : (s : Cluster) (l : Listed) → IsAlike s l → NoneEmpty l
    → All (λ g. is_closed g.metadata.state ≡ true) s.parts.ledgers
    → sum_by lost_in (survey s) ≡ count_entries (holders_of (Picture l ∷ [])) (ledgers_of readings.All (Picture l ∷ [])) has_no_copy
lost-picture s l alike none_empty closed =
    let bookies = holders_of (Picture l ∷ []) in
    let counted : Ledger → CountedLedger = ledger_alone readings.All l in
    sum_by-flat_map lost_in (lines_of s) s.parts.ledgers
    ∙ sum_by-each (λ (g : Ledger). (is_closed g.metadata.state ≡ true) × IsMetadata g.metadata)
    (λ g. sum_by lost_in (lines_of s g)) (λ g. count_ledger bookies has_no_copy (counted g))
    (λ g is. lost-ledger s l alike none_empty readings.All g is.1 (IsTold-closed l g is.0) is.0) s.parts.ledgers
    (λ k g within. (closed k g within, alike.formed k g within))
    ∙ ap (sum_by (λ g. count_ledger bookies has_no_copy (counted g))) alike.ledgers
    ∙ sym (sum_by-map (count_ledger bookies has_no_copy) counted l.listing.ledgers.items)
    ∙ ap (sum_by (count_ledger bookies has_no_copy)) (sym (append-nil (map counted l.listing.ledgers.items)))
