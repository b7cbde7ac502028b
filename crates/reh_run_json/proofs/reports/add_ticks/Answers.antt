-- The tokens, one part after another.
use Rattle.reh_answer.proofs.ObjectLaws.{last, one, then}
use Rattle.reh_run_json.proofs.reports.add_ticks.Goals as goal

pub returns : goal.returns
returns c =
    then c.boolean.result c.args.json.now c.add_number.new.json c.boolean.new.self _ _ c.in_ok-add_number.ensures
    (then c.boolean.result c.add_number.new.json c.add_number-2.new.json c.boolean.new.self _ _ c.in_ok-add_number-2.ensures
    (then c.boolean.result c.add_number-2.new.json c.add_number-3.new.json c.boolean.new.self _ _ c.in_ok-add_number-3.ensures
    (then c.boolean.result c.add_number-3.new.json c.key.new.self c.boolean.new.self _ _ (one c.add_number-3.new.json c.key.new.self _ c.in_ok-key.ensures.ok c.in_ok-key.ensures.room.0)
    (last c.boolean.result c.key.new.self c.boolean.new.self _ c.boolean.ensures))))
