-- All that is held of the ledger lies below the end.
use Rattle.std.proofs.Common.{◌∙◌, ◌*◌, ap, arith}
use Rattle.std.proofs.lemmas.Result.{IfOk-weaker}
use Rattle.reh_types.specs.declared.limits.TheConstants.{ENTRIES_IN_WORD}
use Rattle.reh_model.specs.Contents.{has}
use Rattle.reh_held.specs.Rows.{is_set}
use Rattle.reh_picture_out.specs.Ranges.{is_in}
use Rattle.reh_picture_out.proofs.HoldingLaws.{told-all}
use Rattle.reh_picture_out.proofs.contents.held_ranges.Goals as goal

pub returns : goal.returns
returns c =
    let held = c.args.state.now.parts.held in
    let bookie = c.args.bookie in
    let g = c.args.ledger.now in
    IfOk-weaker c.ranges_of.result _ _
    (λ ranges told.
    told-all held bookie g.id (ENTRIES_IN_WORD * c.words.result) (is_set c.row.result.now) (is_in ranges.items)
    (λ e one. omega (arith, c.requires.within bookie e one, c.words.ensures))
    (λ e. c.row.ensures e ∙ ap (λ l. has held bookie l e) c.id.ensures) told)
    c.ranges_of.ensures
