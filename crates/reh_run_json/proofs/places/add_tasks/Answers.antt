-- The tokens, one part after another.
use Rattle.reh_answer.proofs.ObjectLaws.{last, then}
use Rattle.reh_run_json.proofs.places.add_tasks.Goals as goal

pub returns : goal.returns
returns c =
    then c.end_object.result c.args.json.now c.begin_change.new.json c.end_object.new.self _ _ c.in_ok-begin_change.ensures
    (then c.end_object.result c.begin_change.new.json c.add_id.new.json c.end_object.new.self _ _ c.in_ok-add_id.ensures
    (then c.end_object.result c.add_id.new.json c.add_task.new.json c.end_object.new.self _ _ c.in_ok-add_task.ensures
    (then c.end_object.result c.add_task.new.json c.add_task-2.new.json c.end_object.new.self _ _ c.in_ok-add_task-2.ensures
    (last c.end_object.result c.add_task-2.new.json c.end_object.new.self _ c.end_object.ensures))))
