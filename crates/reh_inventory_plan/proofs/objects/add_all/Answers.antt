-- The tokens, one part after another.
use Rattle.json.specs.Tree.{json_tokens}
use Rattle.reh_answer.proofs.ObjectLaws.{in_place, last, one, then}
use Rattle.reh_inventory_plan.specs.Objects.{inventory_json, plans_with}
use Rattle.reh_inventory_plan.proofs.objects.add_all.Goals as goal

pub returns : goal.returns
returns c =
    in_place c.end_object.result c.args.json.now c.end_object.new.self _ _
    (λ i. json_tokens (plans_with (inventory_json c.args.plan.now) (c.as_slice.ensures i) (c.deref-outcomes.ensures.value i)))
    (then c.end_object.result c.args.json.now c.begin_object.new.self c.end_object.new.self _ _ (one c.args.json.now c.begin_object.new.self _ c.in_ok-begin_object.ensures.ok c.in_ok-begin_object.ensures.room.0)
    (then c.end_object.result c.begin_object.new.self c.add_inventory.new.json c.end_object.new.self _ _ c.in_ok-add_inventory.ensures
    (then c.end_object.result c.add_inventory.new.json c.add_bookies.new.json c.end_object.new.self _ _ c.in_ok-add_bookies.ensures
    (then c.end_object.result c.add_bookies.new.json c.add_count.new.json c.end_object.new.self _ _ c.in_ok-add_count.ensures
    (then c.end_object.result c.add_count.new.json c.add_ledgers.new.json c.end_object.new.self _ _ c.in_ok-add_ledgers.ensures
    (then c.end_object.result c.add_ledgers.new.json c.add_lost.new.json c.end_object.new.self _ _ c.in_ok-add_lost.ensures
    (then c.end_object.result c.add_lost.new.json c.add_count-2.new.json c.end_object.new.self _ _ c.in_ok-add_count-2.ensures
    (then c.end_object.result c.add_count-2.new.json c.add_count-3.new.json c.end_object.new.self _ _ c.in_ok-add_count-3.ensures
    (then c.end_object.result c.add_count-3.new.json c.add_count-4.new.json c.end_object.new.self _ _ c.in_ok-add_count-4.ensures
    (then c.end_object.result c.add_count-4.new.json c.add_fewer.new.json c.end_object.new.self _ _ c.in_ok-add_fewer.ensures
    (last c.end_object.result c.add_fewer.new.json c.end_object.new.self _ c.end_object.ensures)))))))))))
