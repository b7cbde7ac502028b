-- The racks of the members, with the bookie at the index, tell those of the copies.
use Rattle.std.proofs.Common.{◌≡◌, ◌∙◌, ap, sym, ℕ, List, Some, count_by, length-set, map, min, nat_lt, slice_get, slice_index}
use Rattle.std.specs.Option.{option_map_or}
use Rattle.reh_model.specs.Metadata.{Fragment, Metadata, IsMetadata, with_member}
use Rattle.reh_model.specs.Striping.{range, write_set}
use Rattle.reh_model.proofs.ListLaws.{slice_get-there}
use Rattle.reh_plan.specs.Racks.{Racks, least_racks, lacking}
use Rattle.reh_plan.proofs.RacksLaws.{lacking_there, racks_there, whole_at}
use Rattle.reh_plan.proofs.racks.Racks.lacking.Goals as goal

pub returns : goal.returns
returns c =
    let r : Racks = c.args.self.now in
    let m : Metadata = c.args.metadata.now in
    let f : Fragment = c.in-Some.fragment.now in
    let numbers : List ℕ = c.member_racks_with.result in
    let there : slice_get m.fragments c.args.fragment ≡ Some f =
    ap (λ (fragments : List Fragment). slice_get fragments c.args.fragment) (sym c.fragments.ensures.fragments)
    ∙ slice_get-there c.fragments.result.now c.args.fragment f c.in-Some.ensures.lookup.3.0 c.in-Some.ensures.lookup.1 in
    let rules_of : IsMetadata m = c.fragments.ensures.well_formed in
    let is : ℕ → List ℕ = λ e. map (slice_index numbers) (write_set e m.size m.write_quorum) in
    let now =
    racks_there r m (with_member f c.args.index c.args.bookie) numbers rules_of
    (length-set f.ensemble c.args.index c.args.bookie ∙ whole_at m c.args.fragment f rules_of there) c.member_racks_with.ensures in
    c.count_lacking.ensures
    ∙ ap (λ (s : Racks). count_by (λ e. nat_lt (least_racks (is e)) (min s.least m.write_quorum)) (range 0 m.size)) c.self.view_is
    ∙ lacking_there r m f c.args.index c.args.bookie is now
    ∙ sym (ap (λ found. option_map_or (λ g. lacking r m g c.args.index c.args.bookie) found 0) there)
