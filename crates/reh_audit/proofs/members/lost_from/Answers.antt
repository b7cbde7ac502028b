-- The members of one more ensemble that are lost so join those of the fragments before it.
use Rattle.std.proofs.Common.{◌≡◌, ◌∙◌, ap, sym, Bool, List, ℕ, get_or}
use Rattle.std.specs.List.{filter, flat_map}
use Rattle.std.proofs.lemmas.List.{take_all}
use Rattle.reh_types.specs.Sets.{numbers, union, from_list}
use Rattle.reh_types.proofs.SetLaws.{from_list-nil}
use Rattle.reh_model.specs.Metadata.{Fragment}
use Rattle.reh_audit.specs.Members.{is_lost}
use Rattle.reh_audit.proofs.LostLaws.{more-ensemble}
use Rattle.reh_audit.proofs.members.lost_from.Goals as goal

pub loop-fragment-init : goal.loop-fragment-init
loop-fragment-init c = c.new-lost.ensures ∙ sym (from_list-nil numbers)

pub loop-fragment-preserved : goal.loop-fragment-preserved
loop-fragment-preserved c =
    let wanted : ℕ → Bool = is_lost c.args.loss c.args.state.now in
    let members : c.deref.result.now ≡ (get_or c.args.fragments.now c.loop-fragment.fragment-index c.fragment-item.result).ensemble =
    c.deref.ensures.value ∙ ap (λ (f : Fragment). f.ensemble) (c.fragment.view_is ∙ c.fragment-item.is) in
    c.union-lost.ensures
    ∙ (λ i. union (c.loop-fragment.invariant i) ((c.lost_among.ensures ∙ ap (λ (bs : List ℕ). from_list {o = numbers} (filter wanted bs)) members) i))
    ∙ sym (more-ensemble wanted c.args.fragments.now c.loop-fragment.fragment-index c.fragment-item.result c.loop-fragment-test.true)

pub returns : goal.returns
returns c =
    c.loop-fragment.invariant
    ∙ ap (λ (fs : List Fragment). from_list {o = numbers} (filter (is_lost c.args.loss c.args.state.now) (flat_map (λ fragment. fragment.ensemble) fs)))
    (take_all c.loop-fragment.fragment-index c.args.fragments.now c.loop-fragment-test.false)
