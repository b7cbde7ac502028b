-- The rows are long enough for each holding, and after the last one the contents are those of all of them.
use Rattle.std.proofs.Common.{◌≡◌, take, sym, ap, subst, ◌∙◌}
use Rattle.std.proofs.lemmas.List.{take_all}
use Rattle.reh_types.specs.Sets.{triples}
use Rattle.reh_picture.specs.Contents.{Holding, HasEnds, held_in}
use Rattle.reh_picture.proofs.ContentsLemmas.{from_list-fold}
use Rattle.reh_picture.proofs.Rows.{FitsIn-rows}
use Rattle.reh_picture.proofs.contents.hold.Goals as goal

pub add_holding-requires : goal.add_holding-requires
add_holding-requires c =
    let ends : HasEnds c.args.bookies c.args.ledgers.now c.holding-item.result =
    subst (λ (h : Holding). HasEnds c.args.bookies c.args.ledgers.now h) (sym c.holding-item.is)
    (c.requires.ends c.loop-holding.holding-index c.holding-item.result c.loop-holding-test.true) in
    FitsIn-rows c.args.bookies c.args.ledgers.now c.loop-holding.held c.holding-item.result
    c.loop-holding.invariant.rows ends

pub returns-clause-contents : goal.returns-clause-contents
returns-clause-contents c =
    let all : take c.loop-holding.holding-index c.args.holdings.now ≡ c.args.holdings.now =
    take_all c.loop-holding.holding-index c.args.holdings.now c.loop-holding-test.false in
    c.loop-holding.invariant.contents ∙ from_list-fold triples _ ∙ ap held_in all
