-- The ledger's lock comes first, then the metadata as seen, the member and the bookie, and the sources.
use Rattle.std.proofs.Common.{◌≡◌, rules, ◌∙◌, ap, sym, subst, ℕ, Bool, false, not, List, [], ◌∷◌, map, Option, None, Some}
use Rattle.std.specs.List.{zip}
use Rattle.reh_types.specs.declared.contents.Content.{Content}
use Rattle.reh_types.specs.declared.refusals.Refusal.{Refusal}
use Rattle.reh_types.specs.declared.refusals.Refusal.TheVariants.{Stale}
use Rattle.reh_model.specs.Cluster.{Cluster, Ledger, ledger_at}
use Rattle.reh_model.specs.Metadata.{Fragment, Metadata}
use Rattle.reh_model.specs.Striping.{striped_entries}
use Rattle.reh_model.specs.Checks.{first_reason, reason_if}
use Rattle.reh_model.specs.Refusals.{at_fragment, no_bookie, not_owner, no_index, member_up, target_down, target_is_member}
use Rattle.reh_model.specs.Scan.{is_as_seen, lost_source, not_as_seen, post_refusal, source_checks}
use Rattle.reh_model.proofs.AcceptedLaws.{refused_before, passed_before}
use Rattle.reh_model.proofs.LedgerLaws.{stripe_at-found}
use Rattle.reh_scan.specs.Posts.{IsSeen}
use Rattle.reh_scan.proofs.CopyLaws.{members-few}
use Rattle.reh_scan.proofs.PostLaws.{post_refusal-seen, source_checks-found, source_checks-passed}
use Rattle.reh_scan.proofs.posts.find_posted.Goals as goal

-- where the member can be replaced, the sources are left
sources_left : (s : Cluster) (content : Content) (g : Ledger) (fragment : Fragment)
    → no_bookie s content.aim.worker ≡ None → ledger_at s content.aim.ledger ≡ Some g
    → not_owner content.aim.worker g ≡ None → IsSeen g.metadata content fragment
    → first_reason
    (no_index g content.aim.index ∷ member_up s fragment content.aim.index ∷ target_down s content.aim.worker
    ∷ target_is_member fragment content.aim.worker ∷ [])
    ≡ None
    → post_refusal s content
    ≡ first_reason (map (lost_source s g fragment) (zip (striped_entries content.first content.stop content.aim.index
    g.metadata.size g.metadata.write_quorum) content.sources))
sources_left s content g fragment named there owner seen passed =
    post_refusal-seen s content g fragment named there owner seen
    ∙ source_checks-passed s content g fragment seen.index passed
    ∙ ap (λ (es : List ℕ). first_reason (map (lost_source s g fragment) (zip es content.sources))) seen.entries

pub returns-in_err-found : goal.returns-in_err-found
returns-in_err-found c =
    let s : Cluster = c.args.state.now in
    let content : Content = c.args.content.now in
    search (
      rules,
      refused_before s content.aim.worker content.aim.ledger (λ g. not_owner content.aim.worker g ∷ [])
          (λ g. not_as_seen g content ∷ at_fragment g content.aim.fragment (source_checks s content g) ∷ []) _
          c.in_err-found.ensures,
    )

pub returns-in_default : goal.returns-in_default
returns-in_default c =
    let s : Cluster = c.args.state.now in
    let content : Content = c.args.content.now in
    let g : Ledger = c.in_ok-found.found.ledger.now in
    let owned = c.in_ok-found.ensures in
    let later : Option Refusal = at_fragment g content.aim.fragment (source_checks s content g) in
    let unseen : is_as_seen g.metadata content ≡ false =
    subst (λ (m : Metadata). is_as_seen m content ≡ false) c.metadata-metadata.ensures c.in_default.ensures in
    passed_before s content.aim.worker content.aim.ledger g (λ g. not_owner content.aim.worker g ∷ [])
    (λ g. not_as_seen g content ∷ at_fragment g content.aim.fragment (source_checks s content g) ∷ [])
    owned.0 owned.1.ledger (λ j. first_reason (owned.2 j ∷ []))
    ∙ ap (λ (seen : Bool). first_reason (reason_if (not seen) (Stale g.metadata.version) ∷ later ∷ [])) unseen
    ∙ ap (λ (v : ℕ). Some (Stale v))
    (sym (c.version.ensures ∙ ap (λ (m : Metadata). m.version) c.metadata-metadata.ensures))

pub returns-in_err-check_member : goal.returns-in_err-check_member
returns-in_err-check_member c =
    let s : Cluster = c.args.state.now in
    let content : Content = c.args.content.now in
    let g : Ledger = c.in_ok-found.found.ledger.now in
    let fragment : Fragment = c.in-Some.fragment.now in
    let seen : IsSeen g.metadata content fragment =
    subst (λ (m : Metadata). IsSeen m content fragment) c.metadata-metadata.ensures c.in-Some.ensures in
    let owned = c.in_ok-found.ensures in
    let refused =
    post_refusal-seen s content g fragment owned.0 owned.1.ledger owned.2 seen
    ∙ source_checks-found s content g fragment _ seen.index c.in_err-check_member.ensures.checks in
    search (rules, refused)

pub check_sources-requires-clause-members : goal.check_sources-requires-clause-members
check_sources-requires-clause-members c =
    let s : Cluster = c.args.state.now in
    let content : Content = c.args.content.now in
    let g : Ledger = c.in_ok-found.found.ledger.now in
    let fragment : Fragment = c.in-Some.fragment.now in
    let seen : IsSeen g.metadata content fragment =
    subst (λ (m : Metadata). IsSeen m content fragment) c.metadata-metadata.ensures c.in-Some.ensures in
    let found = c.in_ok-found.ensures.1 in
    members-few s content.aim.ledger content.aim.fragment g fragment found.well_formed found.ledger seen.there

pub returns-in_err-check_sources : goal.returns-in_err-check_sources
returns-in_err-check_sources c =
    let s : Cluster = c.args.state.now in
    let content : Content = c.args.content.now in
    let g : Ledger = c.in_ok-found.found.ledger.now in
    let fragment : Fragment = c.in-Some.fragment.now in
    let seen : IsSeen g.metadata content fragment =
    subst (λ (m : Metadata). IsSeen m content fragment) c.metadata-metadata.ensures c.in-Some.ensures in
    let owned = c.in_ok-found.ensures in
    search (
      rules,
      sources_left s content g fragment owned.0 owned.1.ledger owned.2 seen c.in_ok-check_member.ensures.checks
          ∙ c.in_err-check_sources.ensures,
    )

pub returns : goal.returns
returns c =
    let s : Cluster = c.args.state.now in
    let content : Content = c.args.content.now in
    let g : Ledger = c.in_ok-found.found.ledger.now in
    let fragment : Fragment = c.in-Some.fragment.now in
    let seen : IsSeen g.metadata content fragment =
    subst (λ (m : Metadata). IsSeen m content fragment) c.metadata-metadata.ensures c.in-Some.ensures in
    let owned = c.in_ok-found.ensures in (
      sources_left s content g fragment owned.0 owned.1.ledger owned.2 seen c.in_ok-check_member.ensures.checks
          ∙ c.in_ok-check_sources.ensures,
      c.entries_of.ensures.entries
          ∙ ap (λ (m : Metadata). striped_entries content.first content.stop content.aim.index m.size m.write_quorum)
          c.metadata-metadata.ensures
          ∙ sym (stripe_at-found s content.aim.ledger content.aim.fragment content.aim.index g owned.1.ledger
          ∙ seen.entries),
    )
