-- The tokens, one part after another.
use Rattle.reh_answer.proofs.ObjectLaws.{one, then}
use Rattle.reh_run_json.proofs.values.add_registration_members.Goals as goal

pub returns : goal.returns
returns c =
    then c.add_count.result c.args.json.now c.key.new.self c.add_count.new.json _ _ (one c.args.json.now c.key.new.self _ c.in_ok-key.ensures.ok c.in_ok-key.ensures.room.0)
    (then c.add_count.result c.key.new.self c.boolean.new.self c.add_count.new.json _ _ (one c.key.new.self c.boolean.new.self _ c.in_ok-boolean.ensures.ok c.in_ok-boolean.ensures.room.0)
    c.add_count.ensures)
