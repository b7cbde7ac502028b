-- The members of an ensemble more.
use Rattle.std.proofs.Common.{◌≡◌, ◌∙◌, ◌||◌, ℕ, List, ap, get_or, sym}
use Rattle.std.specs.List.{flat_map}
use Rattle.std.proofs.lemmas.List.{take_all}
use Rattle.reh_types.specs.Sets as set
use Rattle.reh_model.specs.Metadata.{Fragment}
use Rattle.reh_plan.proofs.MemberLaws.{ensemble_more, is_one_of, no_ensemble}
use Rattle.reh_plan.proofs.workers.members_of.Goals as goal

pub loop-fragment-init : goal.loop-fragment-init
loop-fragment-init c = λ b few. no_ensemble c.new-members.result c.args.fragments.now b c.new-members.ensures

pub loop-fragment-preserved : goal.loop-fragment-preserved
loop-fragment-preserved c = λ b few.
    let f : Fragment = get_or c.args.fragments.now c.loop-fragment.fragment-index c.fragment-item.result in
    let members : c.deref.result.now ≡ f.ensemble =
    c.deref.ensures.value ∙ ap (λ (x : Fragment). x.ensemble) (c.fragment.view_is ∙ c.fragment-item.is) in
    ensemble_more c.loop-fragment.members c.add_members.new.members c.args.fragments.now c.loop-fragment.fragment-index b
    c.fragment-item.result c.loop-fragment-test.true c.fragment-item.is
    (c.add_members.ensures b few ∙ ap (λ (bs : List ℕ). set.contains c.loop-fragment.members b || is_one_of bs b)
    (members ∙ ap (λ (x : Fragment). x.ensemble) (sym c.fragment-item.is)))
    (c.loop-fragment.invariant b few)

pub returns : goal.returns
returns c = λ b few.
    c.loop-fragment.invariant b few
    ∙ ap (λ (fs : List Fragment). is_one_of (flat_map (λ (x : Fragment). x.ensemble) fs) b)
    (take_all c.loop-fragment.fragment-index c.args.fragments.now c.loop-fragment-test.false)
