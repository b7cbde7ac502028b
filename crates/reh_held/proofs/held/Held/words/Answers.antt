-- The width of the ledger's table.
use Rattle.std.proofs.Common.{sym, ap, ◌∙◌}
use Rattle.reh_held.specs.Values.{HeldValue, words_in}
use Rattle.reh_held.proofs.HeldLaws.{words-found, words-none}
use Rattle.reh_held.proofs.held.Held.words.Goals as goal

pub returns-in-Some : goal.returns-in-Some
returns-in-Some c =
    c.width.ensures
    ∙ sym (words-found c.self.inside.tables.entries c.args.ledger c.in-Some.table.now c.in-Some.ensures.value)
    ∙ ap (λ (v : HeldValue). words_in v c.args.ledger) c.self.view_is

pub returns-in-None : goal.returns-in-None
returns-in-None c =
    sym (words-none c.self.inside.tables.entries c.args.ledger c.in-None.ensures.value)
    ∙ ap (λ (v : HeldValue). words_in v c.args.ledger) c.self.view_is
