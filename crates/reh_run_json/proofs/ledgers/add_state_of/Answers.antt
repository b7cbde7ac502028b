-- The tokens, one part after another.
use Rattle.reh_answer.proofs.ObjectLaws.{then}
use Rattle.reh_run_json.proofs.ledgers.add_state_of.Goals as goal

pub returns : goal.returns
returns c =
    then c.add_last.result c.args.json.now c.add_id.new.json c.add_last.new.json _ _ c.in_ok-add_id.ensures
    (then c.add_last.result c.add_id.new.json c.add_state.new.json c.add_last.new.json _ _ c.in_ok-add_state.ensures
    (then c.add_last.result c.add_state.new.json c.add_number.new.json c.add_last.new.json _ _ c.in_ok-add_number.ensures
    c.add_last.ensures))
