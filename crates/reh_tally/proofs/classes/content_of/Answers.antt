use Rattle.std.proofs.Common.{◌∙◌, List, length, sym, ap}
use Rattle.std.specs.Prelude.{slice_get}
use Rattle.std.specs.Option.{option_map_or}
use Rattle.reh_census.specs.declared.ledgers.Content.{Content}
use Rattle.reh_census.specs.Ledgers.{told_of}
use Rattle.reh_tally.proofs.CursorLaws.{found, not_found}
use Rattle.reh_tally.proofs.classes.content_of.Goals as goal

pub returns-then-contents-index : goal.returns-then-contents-index
returns-then-contents-index c =
    ap (λ (items : List Content). option_map_or (λ content. content.told) (slice_get items c.loop-index.index) c.args.ledger.now.rest)
    (sym c.contents-contents.ensures)
    ∙ found c.contents-contents.result.now c.args.ledger.now.rest (told_of c.args.ledger.now c.args.bookie) c.args.bookie c.loop-index.index
    c.index-contents-index.result c.loop-index-test.true c.if-contents-index.true c.loop-index.invariant

pub returns : goal.returns
returns c =
    ap (λ (items : List Content). option_map_or (λ content. content.told) (slice_get items (length c.contents-contents.result.now)) c.args.ledger.now.rest)
    (sym c.contents-contents.ensures)
    ∙ not_found c.contents-contents.result.now c.args.ledger.now.rest (told_of c.args.ledger.now c.args.bookie) c.args.bookie c.loop-index.index
    c.loop-index-test.false c.loop-index.invariant
