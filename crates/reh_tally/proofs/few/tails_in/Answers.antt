use Rattle.std.proofs.Common.{◌∙◌, List, length, ap, sym}
use Rattle.std.specs.Prelude.{◌==◌}
use Rattle.reh_census.specs.declared.ledgers.Fragment.{Fragment}
use Rattle.reh_tally.proofs.FewLaws.{one_tail}
use Rattle.reh_tally.proofs.few.tails_in.Goals as goal

pub returns-in-Open : goal.returns-in-Open
returns-in-Open c =
    one_tail c.args.ledger.now c.state.result (sym c.state.ensures)
    (ap (λ (fragments : List Fragment). length fragments == 0) (sym c.fragments.ensures.fragments) ∙ sym c.is_empty.ensures ∙ c.if-is_empty.false)
    c.in-Open.is
