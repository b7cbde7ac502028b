-- Scans: what one finds is posted as the copy to its aim would be made, in the state of the scan.
use Rattle.std.proofs.Common.{◌≡◌, ℕ, Bool, true, false, not, cond, ◌&&◌, ◌||◌, List, [], ◌∷◌, map, length, Option, None, Some, refl, sym, ap, ◌∙◌, subst, nat_eq, nat_lt}
use Rattle.std.specs.Prelude.{◌==◌, slice_get}
use Rattle.std.specs.List.{find, list_any, zip}
use Rattle.std.specs.Option.{option_map, option_map_or, option_and_then, option_or, option_eq}
use Rattle.std.specs.Str.{bytes_eq}
use Rattle.std.proofs.Math.Bool.{or-true}
use Rattle.std.proofs.lemmas.Bool.Decides.{Decides-eqb}
use Rattle.std.proofs.lemmas.List.{length-map}
use Rattle.std.proofs.lemmas.Option.{same_Some}
use Rattle.std.proofs.lemmas.Slice.Eq.{bytes_eq-Decides}
use Rattle.reh_types.specs.declared.contents.Content.{Content}
use Rattle.reh_types.specs.declared.names.Aim.{Aim}
use Rattle.reh_types.specs.declared.refusals.Refusal.{Refusal}
use Rattle.reh_types.specs.declared.refusals.Refusal.TheVariants.{NoSource, SourceGone, Stale}
use Rattle.reh_model.specs.Metadata.{Fragment, stop_of, stripe_of, writes}
use Rattle.reh_model.specs.Cluster.{Cluster, Ledger, is_readable, is_source, ledger_at}
use Rattle.reh_model.specs.Checks.{first_reason, reason_if}
use Rattle.reh_model.specs.Refusals.{with_fragment, at_ledger, at_fragment, no_bookie, not_owner, stale_version, no_index, member_up, target_down, target_is_member, no_endpoint, no_place, no_source}
use Rattle.reh_model.specs.Scan.{source_of, content_of, ledger_scan, scan, aim_checks, aim_refusal, is_fragment_as_seen, is_as_seen, not_as_seen, lost_source, lost_sources, source_checks, post_refusal, copy_of}
use Rattle.reh_model.specs.Step.{refusal_of, place_checks}
use Rattle.reh_model.proofs.CheckLaws.{reason_if-none, check-none, first_reason-only}
use Rattle.reh_model.proofs.AcceptedLaws.{with_fragment-none, not_not, accepted_ledger, passed_before}

-- Sources

-- what is not found does not pass,
found_none : (p : ℕ → Bool) (xs : List ℕ) → find p xs ≡ None → list_any p xs ≡ false
found_none p [] none = refl
found_none p (x ∷ xs) none =
    elim (p x) as (λ b. cond b (Some x) (find p xs) ≡ None → (b || list_any p xs) ≡ false) [
      | true ↦ λ none. cc
      | false ↦ λ none. found_none p xs none
    ] none

-- and what is found does, and is in the list
found_some : (p : ℕ → Bool) (xs : List ℕ) (b : ℕ) → find p xs ≡ Some b → (list_any p xs ≡ true) × (list_any (λ x. x == b) xs ≡ true) × (p b ≡ true)
found_some p [] b is = cc
found_some p (x ∷ xs) b is =
    elim (p x) as (λ here. p x ≡ here → cond here (Some x) (find p xs) ≡ Some b → ((here || list_any p xs) ≡ true) × (((x == b) || list_any (λ x. x == b) xs) ≡ true) × (p b ≡ true)) [
      | true ↦ λ passes found.
          let same : x ≡ b = same_Some x b found in
          (refl, ap (λ a. a || list_any (λ x. x == b) xs) ((Decides-eqb x b).1 same), ap p (sym same) ∙ passes)
      | false ↦ λ _ found.
          let later = found_some p xs b found in
          (later.0, ap (λ a. (x == b) || a) later.1 ∙ or-true (x == b), later.2)
    ] refl is

-- where a scan was just made, a source is lost only where there is none
lost_source-scanned : (s : Cluster) (g : Ledger) (fragment : Fragment) (entry : ℕ) → lost_source s g fragment (entry, source_of s g fragment entry) ≡ reason_if (not (is_readable s g fragment entry)) (NoSource entry)
lost_source-scanned s g fragment entry = lost (source_of s g fragment entry) refl where
  lost : (o : Option ℕ) → source_of s g fragment entry ≡ o → lost_source s g fragment (entry, o) ≡ reason_if (not (is_readable s g fragment entry)) (NoSource entry)
  lost None is = ap (λ readable. reason_if (not readable) (NoSource entry)) (sym (found_none (is_source s g.id entry) (writes g.metadata fragment entry) is))
  lost (Some b) is =
      let found = found_some (is_source s g.id entry) (writes g.metadata fragment entry) b is in
      (λ i. reason_if (not (found.1 i && found.2 i)) (SourceGone entry)) ∙ ap (λ readable. reason_if (not readable) (NoSource entry)) (sym found.0)

-- and the first such entry is the first that can't be read
lost_sources-scanned : (s : Cluster) (g : Ledger) (fragment : Fragment) (entries : List ℕ)
    → first_reason (map (lost_source s g fragment) (zip entries (map (source_of s g fragment) entries))) ≡ option_map (λ e. NoSource e) (find (λ e. not (is_readable s g fragment e)) entries)
lost_sources-scanned s g fragment [] = refl
lost_sources-scanned s g fragment (entry ∷ entries) =
    (λ i. option_or (lost_source-scanned s g fragment entry i) (lost_sources-scanned s g fragment entries i))
    ∙ first (not (is_readable s g fragment entry)) (find (λ e. not (is_readable s g fragment e)) entries)
  where
    first : (lost : Bool) (later : Option ℕ) → option_or (reason_if lost (NoSource entry)) (option_map (λ e. NoSource e) later) ≡ option_map (λ e. NoSource e) (cond lost (Some entry) later)
    first true later = refl
    first false later = refl

-- Scans of a place that can be taken

same_number : (n : ℕ) → (n == n) ≡ true
same_number n = (Decides-eqb n n).1 refl

-- the ledger and the fragment of an aim that is not refused
record IsPlace (s : Cluster) (aim : Aim) (g : Ledger) (fragment : Fragment) (stop : ℕ) : Type 0 where
  named : no_bookie s aim.worker ≡ None
  ledger : ledger_at s aim.ledger ≡ Some g
  owner : not_owner aim.worker g ≡ None
  place : no_place s aim.worker g aim.fragment aim.index ≡ None
  is : slice_get g.metadata.fragments aim.fragment ≡ Some fragment
  index : no_index g aim.index ≡ None
  member : member_up s fragment aim.index ≡ None
  up : target_down s aim.worker ≡ None
  new : target_is_member fragment aim.worker ≡ None
  ends : stop_of g.metadata aim.fragment ≡ Some stop

module _ (s : Cluster) (aim : Aim) (g : Ledger) (fragment : Fragment) (stop : ℕ) (at : IsPlace s aim g fragment stop) where
  abbrev entries : List ℕ
  entries = stripe_of g.metadata aim.fragment aim.index

  abbrev found : Content
  found = content_of s aim g fragment stop

  -- the metadata is as the scan saw it
  as_scanned : is_as_seen g.metadata found ≡ true
  as_scanned =
      let ends : option_eq nat_eq (stop_of g.metadata aim.fragment) (Some stop) ≡ true = ap (λ o. option_eq nat_eq o (Some stop)) at.ends ∙ same_number stop in
      let ensemble : bytes_eq fragment.ensemble fragment.ensemble ≡ true = (bytes_eq-Decides fragment.ensemble fragment.ensemble).1 refl in
      let index : nat_lt aim.index g.metadata.size ≡ true = not_not _ (reason_if-none _ _ at.index) in
      let count : (length found.sources == length entries) ≡ true = ap (λ n. n == length entries) (length-map entries (source_of s g fragment)) ∙ same_number (length entries) in
      (λ i. same_number g.metadata.version i && option_map_or (is_fragment_as_seen g.metadata found) (at.is i) false)
      ∙ (λ i. same_number fragment.first i && ends i && ensemble i && index i && count i)

  -- the copy to the aim is refused for an entry without a source alone
  copy_scanned : refusal_of s (copy_of found) ≡ option_map (λ e. NoSource e) (find (λ e. not (is_readable s g fragment e)) entries)
  copy_scanned =
      let owner = at.owner in
      let version : stale_version g g.metadata.version ≡ None = ap (λ b. reason_if (not b) (Stale g.metadata.version)) (same_number g.metadata.version) in
      let place = at.place in
      passed_before s aim.worker aim.ledger g (place_checks s aim.worker aim.fragment aim.index g.metadata.version) (λ g. no_source s g aim.fragment aim.index ∷ []) at.named at.ledger (λ i. first_reason (owner i ∷ version i ∷ place i ∷ []))
      ∙ first_reason-only (no_source s g aim.fragment aim.index)
      ∙ ap (λ (o : Option Fragment). with_fragment o (λ fragment. option_map (λ e. NoSource e) (find (λ e. not (is_readable s g fragment e)) entries) ∷ [])) at.is
      ∙ first_reason-only (option_map (λ e. NoSource e) (find (λ e. not (is_readable s g fragment e)) entries))

  -- and so is the post
  post_scanned : post_refusal s found ≡ option_map (λ e. NoSource e) (find (λ e. not (is_readable s g fragment e)) entries)
  post_scanned =
      let owner = at.owner in
      let seen : not_as_seen g found ≡ None = ap (λ b. reason_if (not b) (Stale g.metadata.version)) as_scanned in
      let member = at.member in
      let up = at.up in
      let new = at.new in
      let sources : Option Refusal = at_fragment g aim.fragment (source_checks s found g) in
      passed_before s aim.worker aim.ledger g (λ g. not_owner aim.worker g ∷ not_as_seen g found ∷ []) (λ g. at_fragment g aim.fragment (source_checks s found g) ∷ []) at.named at.ledger (λ i. first_reason (owner i ∷ seen i ∷ []))
      ∙ first_reason-only sources
      ∙ ap (λ (o : Option Fragment). with_fragment o (source_checks s found g)) at.is
      ∙ (λ i. first_reason (member i ∷ up i ∷ new i ∷ lost_sources s found g fragment ∷ []))
      ∙ first_reason-only (lost_sources s found g fragment)
      ∙ lost_sources-scanned s g fragment entries

-- what a scan finds where there is a fragment that has a stop
stop_found : (found : ℕ → Content) (o : Option ℕ) (content : Content) → option_map found o ≡ Some content → (stop : ℕ) × (o ≡ Some stop) × (found stop ≡ content)
stop_found found None content is = cc
stop_found found (Some stop) content is = (stop, refl, same_Some (found stop) content is)

-- What a scan finds is posted there as the copy to its aim would be made: with the same refusal, or none.
pub post_of_scan : (s : Cluster) (aim : Aim) (content : Content) → aim_refusal s aim ≡ None → scan s aim ≡ Some content → post_refusal s content ≡ refusal_of s (copy_of content)
post_of_scan s aim content none scanned =
    let w : ℕ = aim.worker in
    let f : ℕ = aim.fragment in
    let i : ℕ = aim.index in
    let found = accepted_ledger s w aim.ledger (aim_checks s aim) none in
    let g : Ledger = found.ledger in
    let place : no_place s w g f i ≡ None = check-none (not_owner w g ∷ []) (no_place s w g f i) [] found.passes in
    let at = with_fragment-none (slice_get g.metadata.fragments f) _ place in
    let fragment : Fragment = at.fragment in
    let seen : option_map (content_of s aim g fragment) (stop_of g.metadata f) ≡ Some content =
    sym (ap (λ (o : Option Fragment). option_and_then (λ fragment. option_map (content_of s aim g fragment) (stop_of g.metadata f)) o) at.is)
    ∙ sym (ap (λ (o : Option Ledger). option_and_then (ledger_scan s aim) o) found.is) ∙ scanned in
    let stop = stop_found (content_of s aim g fragment) (stop_of g.metadata f) content seen in
    let member : Option Refusal = member_up s fragment i in
    let new : Option Refusal = target_is_member fragment w in
    let is : IsPlace s aim g fragment stop.0 = record {
      named = check-none [] (no_bookie s w) (at_ledger s aim.ledger (aim_checks s aim) ∷ []) none;
      ledger = found.is;
      owner = check-none [] (not_owner w g) (no_place s w g f i ∷ []) found.passes;
      place = place;
      is = at.is;
      index = check-none [] (no_index g i) (member ∷ target_down s w ∷ new ∷ no_endpoint g f ∷ []) at.passes;
      member = check-none (no_index g i ∷ []) member (target_down s w ∷ new ∷ no_endpoint g f ∷ []) at.passes;
      up = check-none (no_index g i ∷ member ∷ []) (target_down s w) (new ∷ no_endpoint g f ∷ []) at.passes;
      new = check-none (no_index g i ∷ member ∷ target_down s w ∷ []) new (no_endpoint g f ∷ []) at.passes;
      ends = stop.1;
    } in
    subst (λ (found : Content). post_refusal s found ≡ refusal_of s (copy_of found)) stop.2 (post_scanned s aim g fragment stop.0 is ∙ sym (copy_scanned s aim g fragment stop.0 is))
