-- The tokens, one part after another.
use Rattle.std.proofs.Common.{Ok}
use Rattle.reh_answer.proofs.ObjectLaws.{one, then}
use Rattle.reh_check_json.proofs.objects.add_checked.Goals as goal

pub returns-clause-adds : goal.returns-clause-adds
returns-clause-adds c =
    then (Ok tt) c.args.json.now c.begin_object.new.self c.end_object.new.self _ _ (one c.args.json.now c.begin_object.new.self _ c.in_ok-begin_object.ensures.ok c.in_ok-begin_object.ensures.room.0)
    (then (Ok tt) c.begin_object.new.self c.add_counts.new.json c.end_object.new.self _ _ c.in_ok-add_counts.ensures
    (then (Ok tt) c.add_counts.new.json c.add_script.new.json c.end_object.new.self _ _ c.in_ok-faulty.ensures.adds
    (one c.add_script.new.json c.end_object.new.self _ c.in_ok-end_object.ensures.ok c.in_ok-end_object.ensures.room.0)))
