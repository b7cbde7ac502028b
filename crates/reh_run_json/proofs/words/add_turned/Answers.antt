-- The word lies within the ledger's, and its bits are the entries that the bookie holds.
use Rattle.std.proofs.Common.{arith}
use Rattle.reh_changes.proofs.WordLaws.{word-within}
use Rattle.reh_run_json.proofs.WordLaws.{turned-tokens}
use Rattle.reh_answer.proofs.ObjectLaws.{in_place, one, then}
use Rattle.reh_run_json.proofs.words.add_turned.Goals as goal

pub add_ranges-requires : goal.add_ranges-requires
add_ranges-requires c =
    omega (arith, word-within c.args.state.now c.args.ledger c.args.number c.assert_well_formed.ensures c.requires)

pub add_ranges-requires-2 : goal.add_ranges-requires-2
add_ranges-requires-2 c =
    omega (arith, word-within c.args.state.now c.args.ledger c.args.number c.assert_well_formed.ensures c.requires)

pub returns : goal.returns
returns c =
    in_place c.add_ranges-2.result c.args.json.now c.add_ranges-2.new.json _ _
    (turned-tokens c.args.state.now c.args.bookie c.args.ledger c.args.number c.args.bits c.word_at-held.result c.row.result.now
    c.word_at-held.ensures (omega arith) c.row.ensures)
    (then c.add_ranges-2.result c.args.json.now c.key.new.self c.add_ranges-2.new.json _ _ (one c.args.json.now c.key.new.self _ c.in_ok-key.ensures.ok c.in_ok-key.ensures.room.0)
    (then c.add_ranges-2.result c.key.new.self c.add_ranges.new.json c.add_ranges-2.new.json _ _ c.in_ok-add_ranges.ensures
    (then c.add_ranges-2.result c.add_ranges.new.json c.key-2.new.self c.add_ranges-2.new.json _ _ (one c.add_ranges.new.json c.key-2.new.self _ c.in_ok-key-2.ensures.ok c.in_ok-key-2.ensures.room.0)
    c.add_ranges-2.ensures)))
