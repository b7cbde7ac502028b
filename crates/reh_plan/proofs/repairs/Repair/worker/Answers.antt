-- Who is chosen can work, and is the first.
use Rattle.std.proofs.Common.{◌∙◌, ap, sym}
use Rattle.std.specs.Option.{option_copied}
use Rattle.reh_plan.proofs.ChoiceLaws.{chosen_can}
use Rattle.reh_plan.proofs.FillLaws.{chosen_at}
use Rattle.reh_plan.proofs.repairs.Repair.worker.Goals as goal

pub returns-clause-can : goal.returns-clause-can
returns-clause-can c =
    chosen_can c.args.workers.now c.args.state.now _ c.args.fragment c.args.index c.choose.result c.choose.ensures

pub returns-clause-chosen : goal.returns-clause-chosen
returns-clause-chosen c =
    chosen_at c.args.workers.now c.args.state.now c.in_ok-ledger_in.field-0.now c.args.self.now.place c.args.fragment c.args.index
    c.choose.result (sym c.ledger_in.ensures ∙ ap option_copied c.in_ok-ledger_in.was) c.choose.ensures
