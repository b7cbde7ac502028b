-- The tokens, one part after another.
use Rattle.reh_answer.proofs.ObjectLaws.{then}
use Rattle.reh_run_json.proofs.words.begin_entries.Goals as goal

pub returns : goal.returns
returns c =
    then c.add_id.result c.args.json.now c.begin_change.new.json c.add_id.new.json _ _ c.in_ok-begin_change.ensures
    (then c.add_id.result c.begin_change.new.json c.add_named.new.json c.add_id.new.json _ _ c.in_ok-add_named.ensures
    c.add_id.ensures)
