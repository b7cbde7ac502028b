-- The tokens, one part after another.
use Rattle.reh_answer.proofs.ObjectLaws.{then}
use Rattle.reh_run_json.proofs.fragments.add_place.Goals as goal

pub returns : goal.returns
returns c =
    then c.add_number.result c.args.json.now c.add_id.new.json c.add_number.new.json _ _ c.in_ok-add_id.ensures
    c.add_number.ensures
