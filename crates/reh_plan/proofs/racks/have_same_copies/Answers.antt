-- Members and sizes that stay keep the copies.
use Rattle.std.proofs.Common.{◌≡◌, ◌∙◌, ap, sym, List, ℕ}
use Rattle.reh_types.specs.Same.{tells_lists, tells_numbers}
use Rattle.reh_model.specs.Metadata.{Fragment}
use Rattle.reh_plan.proofs.RacksLaws.{same_writes}
use Rattle.reh_plan.proofs.racks.have_same_copies.Goals as goal

pub returns-then-have_same_sizes : goal.returns-then-have_same_sizes
returns-then-have_same_sizes c = λ is.
    let sizes = c.have_same_sizes.ensures c.if-have_same_sizes.true in
    let old : List ℕ = c.old.inside.ensemble.items in
    let new : List ℕ = c.new.inside.ensemble.items in
    let members : old ≡ new = (tells_lists tells_numbers old new).0 (sym c.eq.ensures ∙ is) in
    same_writes c.args.before.now c.args.old.now c.args.after.now c.args.new.now sizes.0 sizes.1
    (sym (ap (λ (f : Fragment). f.ensemble) c.new.view_is) ∙ sym members ∙ ap (λ (f : Fragment). f.ensemble) c.old.view_is)
