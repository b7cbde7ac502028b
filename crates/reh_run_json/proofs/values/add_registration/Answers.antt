-- The tokens, one part after another.
use Rattle.reh_answer.proofs.ObjectLaws.{last, one, then}
use Rattle.reh_run_json.proofs.values.add_registration.Goals as goal

pub returns : goal.returns
returns c =
    then c.end_object.result c.args.json.now c.key.new.self c.end_object.new.self _ _ (one c.args.json.now c.key.new.self _ c.in_ok-key.ensures.ok c.in_ok-key.ensures.room.0)
    (then c.end_object.result c.key.new.self c.begin_object.new.self c.end_object.new.self _ _ (one c.key.new.self c.begin_object.new.self _ c.in_ok-begin_object.ensures.ok c.in_ok-begin_object.ensures.room.0)
    (then c.end_object.result c.begin_object.new.self c.add_registration_members.new.json c.end_object.new.self _ _ c.in_ok-add_registration_members.ensures
    (last c.end_object.result c.add_registration_members.new.json c.end_object.new.self _ c.end_object.ensures)))
