-- The tokens, one part after another.
use Rattle.std.specs.Prelude.{codes}
use Rattle.reh_answer.specs.Objects.{member_tokens}
use Rattle.reh_answer.proofs.ObjectLaws.{in_place, last, one, then}
use Rattle.reh_inventory_plan.specs.Objects.{inventory_with}
use Rattle.reh_inventory_plan.proofs.objects.add_inventory.Goals as goal

pub returns : goal.returns
returns c =
    in_place c.end_object.result c.args.json.now c.end_object.new.self _ _
    (λ i. member_tokens (codes "inventory") (inventory_with c.args.plan.now.ledgers c.args.plan.now.unread (c.deref-outcomes.ensures.value i)))
    (then c.end_object.result c.args.json.now c.key.new.self c.end_object.new.self _ _ (one c.args.json.now c.key.new.self _ c.in_ok-key.ensures.ok c.in_ok-key.ensures.room.0)
    (then c.end_object.result c.key.new.self c.begin_object.new.self c.end_object.new.self _ _ (one c.key.new.self c.begin_object.new.self _ c.in_ok-begin_object.ensures.ok c.in_ok-begin_object.ensures.room.0)
    (then c.end_object.result c.begin_object.new.self c.add_number.new.json c.end_object.new.self _ _ c.in_ok-add_number.ensures
    (then c.end_object.result c.add_number.new.json c.add_number-2.new.json c.end_object.new.self _ _ c.in_ok-add_number-2.ensures
    (then c.end_object.result c.add_number-2.new.json c.add_count.new.json c.end_object.new.self _ _ c.in_ok-add_count.ensures
    (then c.end_object.result c.add_count.new.json c.add_count-2.new.json c.end_object.new.self _ _ c.in_ok-add_count-2.ensures
    (last c.end_object.result c.add_count-2.new.json c.end_object.new.self _ c.end_object.ensures)))))))
