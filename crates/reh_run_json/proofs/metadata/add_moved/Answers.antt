-- The tokens of the state's change, and then of the last entry id's, if there is one.
use Rattle.reh_answer.proofs.ObjectLaws.{then}
use Rattle.reh_run_json.proofs.metadata.add_moved.Goals as goal

pub returns : goal.returns
returns c =
    then c.add_ends.result c.args.json.now c.add_words.new.json c.add_ends.new.json _ _ c.in_ok-add_words.ensures
    c.add_ends.ensures
