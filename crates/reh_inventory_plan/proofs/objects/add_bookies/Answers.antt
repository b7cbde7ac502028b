-- A list between its brackets.
use Rattle.std.specs.Prelude.{codes}
use Rattle.reh_answer.proofs.ObjectLaws.{in_place, last, list-tokens, one, then}
use Rattle.reh_inventory_plan.specs.Objects.{bookie_json}
use Rattle.reh_inventory_plan.proofs.objects.add_bookies.Goals as goal

pub returns : goal.returns
returns c =
    in_place c.end_array.result c.args.json.now c.end_array.new.self _ _ (list-tokens (codes "bookies") (bookie_json c.args.outcomes.now) c.args.bookies.now)
    (then c.end_array.result c.args.json.now c.key.new.self c.end_array.new.self _ _ (one c.args.json.now c.key.new.self _ c.in_ok-key.ensures.ok c.in_ok-key.ensures.room.0)
    (then c.end_array.result c.key.new.self c.begin_array.new.self c.end_array.new.self _ _ (one c.key.new.self c.begin_array.new.self _ c.in_ok-begin_array.ensures.ok c.in_ok-begin_array.ensures.room.0)
    (then c.end_array.result c.begin_array.new.self c.add_each_bookie.new.json c.end_array.new.self _ _ c.in_ok-add_each_bookie.ensures
    (last c.end_array.result c.add_each_bookie.new.json c.end_array.new.self _ c.end_array.ensures))))
