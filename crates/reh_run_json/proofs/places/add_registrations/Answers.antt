-- The tokens, one part after another.
use Rattle.reh_answer.proofs.ObjectLaws.{last, then}
use Rattle.reh_run_json.proofs.places.add_registrations.Goals as goal

pub returns : goal.returns
returns c =
    then c.end_object.result c.args.json.now c.begin_change.new.json c.end_object.new.self _ _ c.in_ok-begin_change.ensures
    (then c.end_object.result c.begin_change.new.json c.add_named.new.json c.end_object.new.self _ _ (rw c.names.ensures.names at c.in_ok-add_named.ensures)
    (then c.end_object.result c.add_named.new.json c.add_registration_before.new.json c.end_object.new.self _ _ c.in_ok-add_registration_before.ensures
    (then c.end_object.result c.add_registration_before.new.json c.add_registration_now.new.json c.end_object.new.self _ _ c.in_ok-add_registration_now.ensures
    (last c.end_object.result c.add_registration_now.new.json c.end_object.new.self _ c.end_object.ensures))))
