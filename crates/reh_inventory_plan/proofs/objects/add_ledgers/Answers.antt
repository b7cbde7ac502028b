-- A list between its brackets.
use Rattle.reh_answer.proofs.ObjectLaws.{in_place, last, one, then}
use Rattle.reh_inventory_plan.proofs.ObjectLaws.{ledgers-tokens}
use Rattle.reh_inventory_plan.proofs.objects.add_ledgers.Goals as goal

pub returns : goal.returns
returns c =
    in_place c.end_array.result c.args.json.now c.end_array.new.self _ _ (ledgers-tokens c.args.outcomes.now)
    (then c.end_array.result c.args.json.now c.key.new.self c.end_array.new.self _ _ (one c.args.json.now c.key.new.self _ c.in_ok-key.ensures.ok c.in_ok-key.ensures.room.0)
    (then c.end_array.result c.key.new.self c.begin_array.new.self c.end_array.new.self _ _ (one c.key.new.self c.begin_array.new.self _ c.in_ok-begin_array.ensures.ok c.in_ok-begin_array.ensures.room.0)
    (then c.end_array.result c.begin_array.new.self c.add_each_outcome.new.json c.end_array.new.self _ _ c.in_ok-add_each_outcome.ensures
    (last c.end_array.result c.add_each_outcome.new.json c.end_array.new.self _ c.end_array.ensures))))
