-- One content more.
use Rattle.std.proofs.Common.{ap}
use Rattle.std.specs.Borrow.{Bor}
use Rattle.reh_census.specs.declared.ledgers.Content.{Content}
use Rattle.reh_picture.specs.Contents.{Holding}
use Rattle.reh_inputs.specs.Ledgers.{content_by}
use Rattle.reh_inputs.proofs.RangeLaws.{pushed}
use Rattle.reh_inputs.proofs.ledgers.contents_of.Goals as goal

pub loop-holding-preserved : goal.loop-holding-preserved
loop-holding-preserved c =
    let make : Bor Holding → Content = λ h. content_by c.args.numbers.now c.args.reading h.now in
    pushed make c.args.held.now c.loop-holding.holding-index c.holding-item.result c.loop-holding.contents.items
    c.add_content.new.contents.items (make c.holding-item.result) c.loop-holding-test.true c.in_ok-add_content.ensures
    (ap make c.holding-item.is) c.loop-holding.invariant
