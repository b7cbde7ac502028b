-- The racks of the members before and after tell those of the copies. Copies that stay stand in no fewer racks.
use Rattle.std.proofs.Common.{◌≡◌, ◌∙◌, ap, sym, ℕ, List, Some, filter, map, min, slice_get, slice_index}
use Rattle.std.specs.List.{reduce}
use Rattle.reh_model.specs.Metadata.{Fragment, Metadata}
use Rattle.reh_model.specs.Striping.{range, write_set}
use Rattle.reh_model.proofs.ListLaws.{slice_get-there}
use Rattle.reh_plan.specs.Racks.{Racks, fragment_before, least_racks, may_be_fewer}
use Rattle.reh_plan.proofs.RacksLaws.{fewest_at, fewest_same, fewest_there, racks_there, whole_at}
use Rattle.reh_plan.proofs.racks.Racks.fewest.Goals as goal

pub returns-then-have_same_copies : goal.returns-then-have_same_copies
returns-then-have_same_copies c =
    let r : Racks = c.args.self.now in
    let m : Metadata = c.args.before.now in
    let n : Metadata = c.args.after.now in
    let before : Fragment = c.in_ok-old.old.now in
    let after : Fragment = c.in_ok-new.new.now in
    let number : ℕ = c.number_before-number.result in
    let old : slice_get m.fragments number ≡ Some before =
    ap (λ (fragments : List Fragment). slice_get fragments number) (sym c.fragments.ensures.fragments)
    ∙ slice_get-there c.fragments.result.now number before c.in_ok-old.ensures.lookup.3.0 c.in_ok-old.ensures.lookup.1 in
    let there : fragment_before m c.args.fragment ≡ Some before =
    ap (slice_get m.fragments) (sym c.number_before-number.ensures) ∙ old in
    let new : slice_get n.fragments c.args.fragment ≡ Some after =
    ap (λ (fragments : List Fragment). slice_get fragments c.args.fragment) (sym c.fragments-2.ensures.fragments)
    ∙ slice_get-there c.fragments-2.result.now c.args.fragment after c.in_ok-new.ensures.lookup.3.0
    c.in_ok-new.ensures.lookup.1 in
    sym
    (fewest_at r m n c.args.fragment before after there new
    ∙ fewest_same r m before n after (c.have_same_copies.ensures c.if-have_same_copies.true))

pub returns : goal.returns
returns c =
    let r : Racks = c.args.self.now in
    let m : Metadata = c.args.before.now in
    let n : Metadata = c.args.after.now in
    let before : Fragment = c.in_ok-old.old.now in
    let after : Fragment = c.in_ok-new.new.now in
    let number : ℕ = c.number_before-number.result in
    let old : slice_get m.fragments number ≡ Some before =
    ap (λ (fragments : List Fragment). slice_get fragments number) (sym c.fragments.ensures.fragments)
    ∙ slice_get-there c.fragments.result.now number before c.in_ok-old.ensures.lookup.3.0 c.in_ok-old.ensures.lookup.1 in
    let there : fragment_before m c.args.fragment ≡ Some before =
    ap (slice_get m.fragments) (sym c.number_before-number.ensures) ∙ old in
    let new : slice_get n.fragments c.args.fragment ≡ Some after =
    ap (λ (fragments : List Fragment). slice_get fragments c.args.fragment) (sym c.fragments-2.ensures.fragments)
    ∙ slice_get-there c.fragments-2.result.now c.args.fragment after c.in_ok-new.ensures.lookup.3.0
    c.in_ok-new.ensures.lookup.1 in
    let was : ℕ → List ℕ = λ e. map (slice_index c.member_racks.result) (write_set e m.size m.write_quorum) in
    let is : ℕ → List ℕ = λ e. map (slice_index c.member_racks-2.result) (write_set e n.size n.write_quorum) in
    let then =
    racks_there r m before c.member_racks.result c.fragments.ensures.well_formed
    (whole_at m number before c.fragments.ensures.well_formed old) c.member_racks.ensures in
    let now =
    racks_there r n after c.member_racks-2.result c.fragments-2.ensures.well_formed
    (whole_at n c.args.fragment after c.fragments-2.ensures.well_formed new) c.member_racks-2.ensures in
    c.least_fewer.ensures
    ∙ ap (λ (s : Racks). reduce min (map (λ e. least_racks (is e)) (filter (λ e. may_be_fewer s.least (was e) (is e)) (range 0 n.size))))
    c.self.view_is
    ∙ fewest_there r m before n after was is then now
    ∙ sym (fewest_at r m n c.args.fragment before after there new)
