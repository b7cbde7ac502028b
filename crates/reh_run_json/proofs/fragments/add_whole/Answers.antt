-- The tokens, one part after another.
use Rattle.reh_answer.proofs.ObjectLaws.{last, then}
use Rattle.reh_run_json.proofs.fragments.add_whole.Goals as goal

pub returns : goal.returns
returns c =
    then c.end_object.result c.args.json.now c.begin_change.new.json c.end_object.new.self _ _ c.in_ok-begin_change.ensures
    (then c.end_object.result c.begin_change.new.json c.add_place.new.json c.end_object.new.self _ _ c.in_ok-add_place.ensures
    (then c.end_object.result c.add_place.new.json c.add_kept.new.json c.end_object.new.self _ _ c.in_ok-add_kept.ensures
    (then c.end_object.result c.add_kept.new.json c.add_kept-2.new.json c.end_object.new.self _ _ c.in_ok-add_kept-2.ensures
    (last c.end_object.result c.add_kept-2.new.json c.end_object.new.self _ c.end_object.ensures))))
