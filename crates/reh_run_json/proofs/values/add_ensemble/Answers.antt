-- A list between its brackets.
use Rattle.reh_run_json.specs.Values.{name_json}
use Rattle.reh_answer.proofs.ObjectLaws.{last, one, then}
use Rattle.reh_run_json.proofs.TokenLaws.{mapped-added}
use Rattle.reh_run_json.proofs.values.add_ensemble.Goals as goal

pub returns : goal.returns
returns c =
    then c.end_array.result c.args.json.now c.key.new.self c.end_array.new.self _ _ (one c.args.json.now c.key.new.self _ c.in_ok-key.ensures.ok c.in_ok-key.ensures.room.0)
    (mapped-added (name_json c.args.names.now) c.args.ensemble.now c.end_array.result c.key.new.self c.begin_array.new.self c.add_each_name.new.json c.end_array.new.self
    (one c.key.new.self c.begin_array.new.self _ c.in_ok-begin_array.ensures.ok c.in_ok-begin_array.ensures.room.0)
    c.in_ok-add_each_name.ensures
    (last c.end_array.result c.add_each_name.new.json c.end_array.new.self _ c.end_array.ensures))
