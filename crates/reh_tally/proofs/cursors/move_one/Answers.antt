use Rattle.std.proofs.Common.{◌∙◌, ap, inr}
use Rattle.std.proofs.lemmas.List.Elements.{All-set}
use Rattle.reh_tally.specs.declared.cursors.Cursor.{Cursor}
use Rattle.reh_tally.specs.Cursors.{IsCursor, IsFar}
use Rattle.reh_tally.proofs.CursorLaws.{members-kept}
use Rattle.reh_tally.proofs.cursors.move_one.Goals as goal

pub returns-then-index-at-clause-members : goal.returns-then-index-at-clause-members
returns-then-index-at-clause-members c =
    members-kept c.args.cursors.now.items c.args.index c.moved_to-moved.result c.index-then-index-at.result.now c.requires.index
    (c.moved_to-moved.ensures.bookie ∙ ap (λ (d : Cursor). d.bookie) c.index-then-index-at.ensures)

pub returns-then-index-at-clause-told : goal.returns-then-index-at-clause-told
returns-then-index-at-clause-told c =
    All-set (IsCursor c.args.ledger.now c.args.at) c.args.cursors.now.items c.args.index c.moved_to-moved.result
    c.moved_to-moved.ensures.told c.requires.told

pub returns-then-index-at-clause-far : goal.returns-then-index-at-clause-far
returns-then-index-at-clause-far c =
    All-set (IsFar c.args.ledger.now c.args.at c.args.stop) c.args.cursors.now.items c.args.index c.moved_to-moved.result
    (inr c.moved_to-moved.ensures.end) c.requires.far
