use Rattle.json.specs.Tree.{json_tokens}
use Rattle.reh_answer.specs.Objects as objects
use Rattle.reh_answer.proofs.ObjectLaws.{in_place, last, one, then}
use Rattle.reh_answer.proofs.objects.add_one.Goals as goal

pub returns : goal.returns
returns c =
    in_place c.end_object.result c.args.json.now c.end_object.new.self _ _ (λ i. json_tokens (objects.against_with c.args.against.now.ledger c.args.against.now.entries (c.as_str.ensures.value i)))
    (then c.end_object.result c.args.json.now c.begin_object.new.self c.end_object.new.self _ _ (one c.args.json.now c.begin_object.new.self _ c.in_ok-begin_object.ensures.ok c.in_ok-begin_object.ensures.room.0)
    (then c.end_object.result c.begin_object.new.self c.add_number.new.json c.end_object.new.self _ _ c.in_ok-add_number.ensures
    (then c.end_object.result c.add_number.new.json c.add_number-2.new.json c.end_object.new.self _ _ c.in_ok-add_number-2.ensures
    (then c.end_object.result c.add_number-2.new.json c.add_text.new.json c.end_object.new.self _ _ c.in_ok-add_text.ensures
    (last c.end_object.result c.add_text.new.json c.end_object.new.self _ c.end_object.ensures)))))
