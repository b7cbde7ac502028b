-- The tokens, one part after another.
use Rattle.reh_run_json.proofs.LineLaws.{line-tokens}
use Rattle.reh_answer.proofs.ObjectLaws.{in_place, last, one, then}
use Rattle.reh_run_json.proofs.lines.add_line.Goals as goal

pub returns : goal.returns
returns c =
    in_place c.end_object.result c.args.json.now c.end_object.new.self _ _ (line-tokens c.args.state.now c.args.number _ c.args.answer.now c.args.changes.now)
    (then c.end_object.result c.args.json.now c.begin_object.new.self c.end_object.new.self _ _ (one c.args.json.now c.begin_object.new.self _ c.in_ok-begin_object.ensures.ok c.in_ok-begin_object.ensures.room.0)
    (then c.end_object.result c.begin_object.new.self c.add_number.new.json c.end_object.new.self _ _ c.in_ok-add_number.ensures
    (then c.end_object.result c.add_number.new.json c.key.new.self c.end_object.new.self _ _ (one c.add_number.new.json c.key.new.self _ c.in_ok-key.ensures.ok c.in_ok-key.ensures.room.0)
    (then c.end_object.result c.key.new.self c.add_command.new.json c.end_object.new.self _ _ c.in_ok-add_command.ensures
    (then c.end_object.result c.add_command.new.json c.add_answer.new.json c.end_object.new.self _ _ c.in_ok-add_answer.ensures
    (then c.end_object.result c.add_answer.new.json c.add_list.new.json c.end_object.new.self _ _ c.in_ok-add_list.ensures
    (last c.end_object.result c.add_list.new.json c.end_object.new.self _ c.end_object.ensures)))))))
