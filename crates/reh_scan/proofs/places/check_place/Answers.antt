-- The fragment's checks of its member and the bookie come first, and after them whether it has a stop.
use Rattle.std.proofs.Common.{◌≡◌, ◌∙◌, ap, sym, rules, ℕ, [], ◌∷◌, ◌++◌, List, Option, None, Some}
use Rattle.std.specs.Prelude.{slice_get}
use Rattle.reh_types.specs.declared.refusals.Refusal.{Refusal}
use Rattle.reh_types.specs.declared.refusals.Refusal.TheVariants.{NoEndpoint}
use Rattle.reh_model.specs.Metadata.{Fragment, Metadata}
use Rattle.reh_model.specs.Cluster.{Cluster, Ledger}
use Rattle.reh_model.specs.Checks.{first_reason}
use Rattle.reh_model.specs.Refusals.{with_fragment, no_index, member_up, target_down, target_is_member, no_endpoint}
use Rattle.reh_model.specs.Refusals.{no_place}
use Rattle.reh_model.proofs.ListLaws.{slice_get-there}
use Rattle.reh_model.proofs.CheckLaws.{first_reason-found, first_reason-passed}
use Rattle.reh_scan.proofs.places.check_place.Goals as goal

-- the checks of the member and the bookie
abbrev member_checks : Cluster → Ledger → Fragment → ℕ → ℕ → List (Option Refusal)
member_checks s g fragment i w =
    no_index g i ∷ member_up s fragment i ∷ target_down s w ∷ target_is_member fragment w ∷ []

-- the place of a fragment that is there
place_there : (s : Cluster) (w : ℕ) (g : Ledger) (f i : ℕ) (fragment : Fragment)
    → slice_get g.metadata.fragments f ≡ Some fragment
    → no_place s w g f i ≡ first_reason (member_checks s g fragment i w ++ no_endpoint g f ∷ [])
place_there s w g f i fragment is =
    ap (λ found. with_fragment found (λ fragment. member_checks s g fragment i w ++ no_endpoint g f ∷ [])) is

pub returns-in_err-check_member : goal.returns-in_err-check_member
returns-in_err-check_member c =
    let s : Cluster = c.args.state.now in
    let g : Ledger = c.args.ledger.now in
    let there : slice_get g.metadata.fragments c.args.aim.now.fragment ≡ Some c.in-Some.fragment.now =
    ap (λ (m : Metadata). slice_get m.fragments c.args.aim.now.fragment) (sym c.metadata-metadata.ensures)
    ∙ ap (λ (fragments : List Fragment). slice_get fragments c.args.aim.now.fragment)
    (sym c.fragments.ensures.fragments)
    ∙ slice_get-there c.fragments.result.now c.args.aim.now.fragment c.in-Some.fragment.now c.in-Some.ensures.lookup.3.0
    c.in-Some.ensures.lookup.1 in
    let refused =
    place_there s c.args.aim.now.worker g c.args.aim.now.fragment c.args.aim.now.index c.in-Some.fragment.now there
    ∙ first_reason-found (member_checks s g c.in-Some.fragment.now c.args.aim.now.index c.args.aim.now.worker)
    (no_endpoint g c.args.aim.now.fragment ∷ []) _ c.in_err-check_member.ensures.checks in
    search (rules, refused)

pub returns-in_default-end_of : goal.returns-in_default-end_of
returns-in_default-end_of c =
    let s : Cluster = c.args.state.now in
    let g : Ledger = c.args.ledger.now in
    let there : slice_get g.metadata.fragments c.args.aim.now.fragment ≡ Some c.in-Some.fragment.now =
    ap (λ (m : Metadata). slice_get m.fragments c.args.aim.now.fragment) (sym c.metadata-metadata.ensures)
    ∙ ap (λ (fragments : List Fragment). slice_get fragments c.args.aim.now.fragment)
    (sym c.fragments.ensures.fragments)
    ∙ slice_get-there c.fragments.result.now c.args.aim.now.fragment c.in-Some.fragment.now c.in-Some.ensures.lookup.3.0
    c.in-Some.ensures.lookup.1 in
    let endless : first_reason (no_endpoint g c.args.aim.now.fragment ∷ []) ≡ Some NoEndpoint = search rules in
    place_there s c.args.aim.now.worker g c.args.aim.now.fragment c.args.aim.now.index c.in-Some.fragment.now there
    ∙ first_reason-passed (member_checks s g c.in-Some.fragment.now c.args.aim.now.index c.args.aim.now.worker)
    (no_endpoint g c.args.aim.now.fragment ∷ []) c.in_ok-check_member.ensures.checks
    ∙ endless

pub returns : goal.returns
returns c =
    let s : Cluster = c.args.state.now in
    let g : Ledger = c.args.ledger.now in
    let there : slice_get g.metadata.fragments c.args.aim.now.fragment ≡ Some c.in-Some.fragment.now =
    ap (λ (m : Metadata). slice_get m.fragments c.args.aim.now.fragment) (sym c.metadata-metadata.ensures)
    ∙ ap (λ (fragments : List Fragment). slice_get fragments c.args.aim.now.fragment)
    (sym c.fragments.ensures.fragments)
    ∙ slice_get-there c.fragments.result.now c.args.aim.now.fragment c.in-Some.fragment.now c.in-Some.ensures.lookup.3.0
    c.in-Some.ensures.lookup.1 in
    let ends : first_reason (no_endpoint g c.args.aim.now.fragment ∷ []) ≡ None = search rules in
    let placed : no_place s c.args.aim.now.worker g c.args.aim.now.fragment c.args.aim.now.index ≡ None =
    place_there s c.args.aim.now.worker g c.args.aim.now.fragment c.args.aim.now.index c.in-Some.fragment.now there
    ∙ first_reason-passed (member_checks s g c.in-Some.fragment.now c.args.aim.now.index c.args.aim.now.worker)
    (no_endpoint g c.args.aim.now.fragment ∷ []) c.in_ok-check_member.ensures.checks
    ∙ ends in
    search (rules, placed)
