-- The bookie holds the entry if its bit is set.
use Rattle.std.proofs.Common.{sym, ap, ◌∙◌}
use Rattle.reh_model.specs.Contents.{has}
use Rattle.reh_held.specs.Values.{HeldValue}
use Rattle.reh_held.proofs.HeldLaws.{has-found, has-none}
use Rattle.reh_held.proofs.held.Held.holds.Goals as goal

pub returns-in-Some : goal.returns-in-Some
returns-in-Some c =
    c.holds.ensures
    ∙ sym (has-found c.self.inside.tables.entries c.args.bookie c.args.ledger c.args.entry c.in-Some.table.now
    c.in-Some.ensures.value)
    ∙ ap (λ (v : HeldValue). has v.contents c.args.bookie c.args.ledger c.args.entry) c.self.view_is

pub returns-in-None : goal.returns-in-None
returns-in-None c =
    sym (has-none c.self.inside.tables.entries c.args.bookie c.args.ledger c.args.entry c.in-None.ensures.value)
    ∙ ap (λ (v : HeldValue). has v.contents c.args.bookie c.args.ledger c.args.entry) c.self.view_is
