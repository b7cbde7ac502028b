-- The tokens, one part after another.
use Rattle.reh_answer.proofs.ObjectLaws.{last, one, then}
use Rattle.reh_run_json.proofs.ledgers.add_parts.Goals as goal

pub returns : goal.returns
returns c =
    then c.end_object.result c.args.json.now c.begin_object.new.self c.end_object.new.self _ _ (one c.args.json.now c.begin_object.new.self _ c.in_ok-begin_object.ensures.ok c.in_ok-begin_object.ensures.room.0)
    (then c.end_object.result c.begin_object.new.self c.add_standing.new.json c.end_object.new.self _ _ c.in_ok-add_standing.ensures
    (then c.end_object.result c.add_standing.new.json c.add_sizes.new.json c.end_object.new.self _ _ c.in_ok-add_sizes.ensures
    (then c.end_object.result c.add_sizes.new.json c.add_fragments.new.json c.end_object.new.self _ _ c.in_ok-add_fragments.ensures
    (then c.end_object.result c.add_fragments.new.json c.add_task.new.json c.end_object.new.self _ _ c.in_ok-add_task.ensures
    (then c.end_object.result c.add_task.new.json c.add_lock.new.json c.end_object.new.self _ _ c.in_ok-add_lock.ensures
    (last c.end_object.result c.add_lock.new.json c.end_object.new.self _ c.end_object.ensures))))))
