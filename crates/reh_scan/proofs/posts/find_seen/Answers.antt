-- The fragment stands at its number, and is as it was seen or not.
use Rattle.std.proofs.Common.{◌≡◌, ◌∙◌, ap, sym, refl, arith, ℕ, ◌<◌, Bool, true, false, ◌&&◌, List, [], Option, None, Some, nat_eq, nat_lt}
use Rattle.std.proofs.Common.{length}
use Rattle.std.specs.Prelude.{◌==◌, bytes_eq, slice_get}
use Rattle.std.specs.Option.{option_eq, option_map_or}
use Rattle.std.proofs.lemmas.Bool.Decides.{nat_tests}
use Rattle.reh_types.specs.declared.contents.Content.{Content}
use Rattle.reh_model.specs.Metadata.{Fragment, Metadata, IsEnsemble, IsMetadata, stop_of, stripe_of}
use Rattle.reh_model.specs.Striping.{striped_entries}
use Rattle.reh_model.specs.Scan.{is_as_seen, is_fragment_as_seen}
use Rattle.reh_model.proofs.ListLaws.{slice_get-there}
use Rattle.reh_scan.specs.Posts.{IsSeen}
use Rattle.reh_scan.proofs.CopyLaws.{all_there}
use Rattle.reh_scan.proofs.posts.find_seen.Goals.{else-version-content-via-then-version-content+else-is_fragment_as_seen, else-version-content-via-else-version-content}
use Rattle.reh_scan.proofs.posts.find_seen.Goals as goal

both : (a b : Bool) → (a && b) ≡ true → (a ≡ true) × (b ≡ true)
both true b is = (refl, is)
both false b is = cc

each : (first stop ensemble index sources : Bool) → ((((first && stop) && ensemble) && index) && sources) ≡ true
    → (first ≡ true) × ((stop ≡ true) × (index ≡ true))
each first stop ensemble index sources is =
    let before = both (((first && stop) && ensemble) && index) sources is in
    let with_index = both ((first && stop) && ensemble) index before.0 in
    let bounds = both first stop (both (first && stop) ensemble with_index.0).0 in (bounds.0, (bounds.1, with_index.1))

never : (a : Bool) → (a && false) ≡ false
never true = refl
never false = refl

stop_tied : (stop : Option ℕ) (seen : ℕ) → option_eq nat_eq stop (Some seen) ≡ true → stop ≡ Some seen
stop_tied None seen is = cc
stop_tied (Some stop) seen is =
    let tied : stop ≡ seen = grind (arith, nat_tests) in
    ap (λ (e : ℕ). Some e) tied

module _ (m : Metadata) (content : Content) (fragment : Fragment)
    (there : slice_get m.fragments content.aim.fragment ≡ Some fragment) where
  -- the answer is that of the fragment, where the version is the same
  by_fragment : is_as_seen m content ≡ ((m.version == content.version) && is_fragment_as_seen m content fragment)
  by_fragment =
      ap (λ (o : Option Fragment).
      (m.version == content.version) && option_map_or (is_fragment_as_seen m content) o false) there

  entries_seen : stop_of m content.aim.fragment ≡ Some content.stop → fragment.first ≡ content.first
      → stripe_of m content.aim.fragment content.aim.index
      ≡ striped_entries content.first content.stop content.aim.index m.size m.write_quorum
  entries_seen stop first =
      ap (λ (o : Option Fragment). option_map_or (λ fragment.
      option_map_or (λ stop. striped_entries fragment.first stop content.aim.index m.size m.write_quorum)
      (stop_of m content.aim.fragment) []) o []) there
      ∙ ap (λ (o : Option ℕ). option_map_or (λ stop.
      striped_entries fragment.first stop content.aim.index m.size m.write_quorum) o []) stop
      ∙ ap (λ (e : ℕ). striped_entries e content.stop content.aim.index m.size m.write_quorum) first

  is_seen : IsMetadata m → m.version ≡ content.version → is_fragment_as_seen m content fragment ≡ true
      → IsSeen m content fragment
  is_seen was version seen =
      let told =
      each (fragment.first == content.first) (option_eq nat_eq (stop_of m content.aim.fragment) (Some content.stop))
      (bytes_eq fragment.ensemble content.ensemble) (nat_lt content.aim.index m.size)
      (length content.sources == length (stripe_of m content.aim.fragment content.aim.index)) seen in
      let first : fragment.first ≡ content.first = grind (arith, nat_tests, told.0) in
      let inside : content.aim.index < m.size = grind (arith, nat_tests, told.1.1) in
      let same : (m.version == content.version) ≡ true = grind (arith, nat_tests, version) in
      record {
        seen = by_fragment ∙ (λ j. same j && seen j);
        there = there;
        whole =
            (all_there (λ fragment. IsEnsemble m.size fragment.ensemble) m.fragments content.aim.fragment fragment
            was.ensembles there).whole;
        index = inside;
        entries = entries_seen (stop_tied (stop_of m content.aim.fragment) content.stop told.1.0) first;
      }

pub returns-then-is_fragment_as_seen : goal.returns-then-is_fragment_as_seen
returns-then-is_fragment_as_seen c =
    let m : Metadata = c.args.metadata.now in
    let content : Content = c.args.content.now in
    let fragment : Fragment = c.in_ok-fragment.fragment.now in
    let there : slice_get m.fragments content.aim.fragment ≡ Some fragment =
    ap (λ (fragments : List Fragment). slice_get fragments content.aim.fragment) (sym c.fragments.ensures.fragments)
    ∙ slice_get-there c.fragments.result.now content.aim.fragment fragment c.in_ok-fragment.ensures.lookup.3.0
    c.in_ok-fragment.ensures.lookup.1 in
    is_seen m content fragment there c.fragments.ensures.well_formed (sym c.version.ensures ∙ c.if-version-content.true)
    (sym c.is_fragment_as_seen.ensures ∙ c.if-is_fragment_as_seen.true)

pub returns-else-version-content : goal.returns-else-version-content
returns-else-version-content c =
    let m : Metadata = c.args.metadata.now in
    let content : Content = c.args.content.now in
    let fragment : Fragment = c.in_ok-fragment.fragment.now in
    let there : slice_get m.fragments content.aim.fragment ≡ Some fragment =
    ap (λ (fragments : List Fragment). slice_get fragments content.aim.fragment) (sym c.fragments.ensures.fragments)
    ∙ slice_get-there c.fragments.result.now content.aim.fragment fragment c.in_ok-fragment.ensures.lookup.3.0
    c.in_ok-fragment.ensures.lookup.1 in
    by_fragment m content fragment there ∙ elim c.else-version-content.branch [
      | else-version-content-via-then-version-content+else-is_fragment_as_seen w ↦
          ap (λ (seen : Bool). (m.version == content.version) && seen)
          (sym w.is_fragment_as_seen.ensures ∙ w.if-is_fragment_as_seen.false)
          ∙ never (m.version == content.version)
      | else-version-content-via-else-version-content w ↦
          let other : (m.version == content.version) ≡ false =
          grind (arith, nat_tests, c.version.ensures, w.if-version-content.false) in
          ap (λ (same : Bool). same && is_fragment_as_seen m content fragment) other
    ]
