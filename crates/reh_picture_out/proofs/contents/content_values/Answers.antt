-- One ledger more, and all of them.
use Rattle.std.proofs.Common.{◌+◌, length, take}
use Rattle.reh_picture_out.proofs.HoldingLaws.{Adds-then, among-next, is_among, is_below, ledger-end}
use Rattle.reh_picture_out.proofs.HoldingLaws.{lies-within, contents-all}
use Rattle.reh_picture_out.proofs.contents.content_values.Goals as goal

pub push_contents-requires : goal.push_contents-requires
push_contents-requires c =
    let good = c.ledgers-ledger-items.ensures.well_formed in
    let same = c.ledgers-ledger-items.ensures.ledgers in record {
      end = ledger-end c.args.state.now good _ same c.loop-ledger.ledger-index c.ledger-item.result
          c.loop-ledger-test.true c.ledger-item.is;
      within = lies-within c.args.state.now good _ same c.loop-ledger.ledger-index c.ledger-item.result
          c.loop-ledger-test.true c.ledger-item.is;
    }

pub loop-ledger-preserved : goal.loop-ledger-preserved
loop-ledger-preserved c =
    let bookies = length c.args.state.now.names in
    let ledgers = c.ledgers-ledger-items.result.now in
    let i = c.loop-ledger.ledger-index in
    let g = c.ledger-item.result in
    Adds-then c.args.state.now.names c.args.state.now.parts.held c.args.told.now
    (is_among bookies (take i ledgers)) (is_below bookies g.id) (is_among bookies (take (i + 1) ledgers)) _ _ _
    c.loop-ledger.invariant c.in_ok-room.ensures
    (among-next bookies ledgers i g c.loop-ledger-test.true c.ledger-item.is)

pub returns : goal.returns
returns c =
    contents-all c.args.state.now c.args.told.now _ _ c.loop-ledger.ledger-index c.ledgers-ledger-items.ensures.well_formed
    c.ledgers-ledger-items.ensures.ledgers c.loop-ledger-test.false c.loop-ledger.invariant
