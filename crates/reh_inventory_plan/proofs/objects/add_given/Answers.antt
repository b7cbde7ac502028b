-- The tokens, one part after another.
use Rattle.reh_answer.proofs.ObjectLaws.{last, one, then}
use Rattle.reh_inventory_plan.proofs.objects.add_given.Goals as goal

pub returns : goal.returns
returns c =
    then c.end_object.result c.args.json.now c.begin_object.new.self c.end_object.new.self _ _ (one c.args.json.now c.begin_object.new.self _ c.in_ok-begin_object.ensures.ok c.in_ok-begin_object.ensures.room.0)
    (then c.end_object.result c.begin_object.new.self c.add_text.new.json c.end_object.new.self _ _ c.in_ok-add_text.ensures
    (then c.end_object.result c.add_text.new.json c.add_number.new.json c.end_object.new.self _ _ c.in_ok-add_number.ensures
    (then c.end_object.result c.add_number.new.json c.add_number-2.new.json c.end_object.new.self _ _ c.in_ok-add_number-2.ensures
    (then c.end_object.result c.add_number-2.new.json c.add_number-3.new.json c.end_object.new.self _ _ c.in_ok-add_number-3.ensures
    (last c.end_object.result c.add_number-3.new.json c.end_object.new.self _ c.end_object.ensures)))))
