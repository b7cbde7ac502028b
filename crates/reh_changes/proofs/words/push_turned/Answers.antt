-- The word lies within the ledger's, and its bits are the entries that the bookie holds.
use Rattle.std.proofs.Common.{arith}
use Rattle.reh_changes.proofs.WordLaws.{turned_more, word-within}
use Rattle.reh_changes.proofs.words.push_turned.Goals as goal

pub push_ranges-requires : goal.push_ranges-requires
push_ranges-requires c =
    omega (arith, word-within c.args.state.now c.args.ledger c.args.number c.assert_well_formed.ensures c.requires)

pub push_ranges-requires-2 : goal.push_ranges-requires-2
push_ranges-requires-2 c =
    omega (arith, word-within c.args.state.now c.args.ledger c.args.number c.assert_well_formed.ensures c.requires)

pub returns : goal.returns
returns c =
    turned_more _ _ _ c.args.state.now c.args.bookie c.args.ledger c.args.number c.args.bits c.word_at-held.result
    c.row.result.now c.word_at-held.ensures (omega arith) c.row.ensures c.in_ok-push_ranges.ensures
    c.in_ok-push_ranges-2.ensures
