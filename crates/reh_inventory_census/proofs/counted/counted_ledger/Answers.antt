-- A ledger that is made of the line says no more than the line, and the same where no bookie is told partly.
use Rattle.std.proofs.Common.{◌≡◌, ◌∙◌, ap, map, subst}
use Rattle.std.specs.Prelude.{IfOk}
use Rattle.reh_census.specs.Ledgers.{Ledger}
use Rattle.reh_inventory_census.proofs.ShownLaws.{made-of-line, says_result, shows_result}
use Rattle.reh_inventory_census.specs.Counted.{content_by, counted}
use Rattle.reh_inventory_census.proofs.counted.counted_ledger.Goals as goal

made : (c : goal.After-make_ledger)
    → IfOk c.make_ledger.result
    (λ g. g ≡ counted c.args.names.now c.args.assumes_striped c.args.is_strict c.args.line.now)
made c =
    let P : Ledger → Type 0 = λ of_line. IfOk c.make_ledger.result (λ g. g ≡ of_line) in
    subst P
    (made-of-line c.args.names.now c.args.assumes_striped c.args.is_strict c.args.line.now c.reading_of-reading.result
    c.in_ok-contents.contents.items c.rest_of-rest.result c.reading_of-reading.ensures
    ((λ i. c.in_ok-contents.ensures i)
    ∙ ap (map (content_by c.args.names.now c.reading_of-reading.result)) c.as_slice.ensures)
    c.rest_of-rest.ensures)
    c.make_ledger.ensures.ledger

pub returns-clause-says : goal.returns-clause-says
returns-clause-says c =
    says_result c.args.names.now c.args.assumes_striped c.args.is_strict c.args.line.now c.make_ledger.result (made c)
    c.make_ledger.ensures.sound

pub returns-clause-shows : goal.returns-clause-shows
returns-clause-shows c =
    shows_result c.args.names.now c.args.assumes_striped c.args.is_strict c.args.line.now c.make_ledger.result (made c)
    c.make_ledger.ensures.sound
