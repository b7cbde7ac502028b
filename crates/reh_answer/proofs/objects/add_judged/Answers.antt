use Rattle.reh_answer.proofs.ObjectLaws.{last, one, then}
use Rattle.reh_answer.proofs.objects.add_judged.Goals as goal

pub returns : goal.returns
returns c =
    then c.end_object.result c.args.json.now c.key.new.self c.end_object.new.self _ _ (one c.args.json.now c.key.new.self _ c.in_ok-key.ensures.ok c.in_ok-key.ensures.room.0)
    (then c.end_object.result c.key.new.self c.begin_object.new.self c.end_object.new.self _ _ (one c.key.new.self c.begin_object.new.self _ c.in_ok-begin_object.ensures.ok c.in_ok-begin_object.ensures.room.0)
    (then c.end_object.result c.begin_object.new.self c.add_number.new.json c.end_object.new.self _ _ c.in_ok-add_number.ensures
    (then c.end_object.result c.add_number.new.json c.add_number-2.new.json c.end_object.new.self _ _ c.in_ok-add_number-2.ensures
    (then c.end_object.result c.add_number-2.new.json c.add_number-3.new.json c.end_object.new.self _ _ c.in_ok-add_number-3.ensures
    (then c.end_object.result c.add_number-3.new.json c.add_number-4.new.json c.end_object.new.self _ _ c.in_ok-add_number-4.ensures
    (then c.end_object.result c.add_number-4.new.json c.add_number-5.new.json c.end_object.new.self _ _ c.in_ok-add_number-5.ensures
    (then c.end_object.result c.add_number-5.new.json c.add_number-6.new.json c.end_object.new.self _ _ c.in_ok-add_number-6.ensures
    (then c.end_object.result c.add_number-6.new.json c.add_null.new.json c.end_object.new.self _ _ c.in_ok-add_null.ensures
    (then c.end_object.result c.add_null.new.json c.add_text_or_null.new.json c.end_object.new.self _ _ c.in_ok-add_text_or_null.ensures
    (last c.end_object.result c.add_text_or_null.new.json c.end_object.new.self _ c.end_object.ensures))))))))))
