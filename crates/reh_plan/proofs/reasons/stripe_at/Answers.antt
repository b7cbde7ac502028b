-- The fragment is there.
use Rattle.std.proofs.Common.{◌≡◌, ◌∙◌, ap, sym, rules, List, Some}
use Rattle.std.specs.Prelude.{slice_get}
use Rattle.reh_model.specs.Metadata.{Fragment, Metadata}
use Rattle.reh_model.proofs.ListLaws.{slice_get-there}
use Rattle.reh_plan.proofs.reasons.stripe_at.Goals as goal

pub returns : goal.returns
returns c =
    let there : slice_get c.args.ledger.now.metadata.fragments c.args.number ≡ Some c.in-Some.fragment.now =
    ap (λ (m : Metadata). slice_get m.fragments c.args.number) (sym c.metadata-metadata.ensures)
    ∙ ap (λ (fragments : List Fragment). slice_get fragments c.args.number) (sym c.fragments.ensures.fragments)
    ∙ slice_get-there c.fragments.result.now c.args.number c.in-Some.fragment.now c.in-Some.ensures.lookup.3.0
    c.in-Some.ensures.lookup.1 in
    search (rules, there)
