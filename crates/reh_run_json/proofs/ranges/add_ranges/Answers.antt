-- A list between its brackets.
use Rattle.reh_answer.proofs.ObjectLaws.{last, one}
use Rattle.reh_run_json.proofs.TokenLaws.{array-added}
use Rattle.reh_run_json.proofs.ranges.add_ranges.Goals as goal

pub returns : goal.returns
returns c =
    array-added _ c.end_array.result c.args.json.now c.begin_array.new.self c.add_each_range.new.json c.end_array.new.self
    (one c.args.json.now c.begin_array.new.self _ c.in_ok-begin_array.ensures.ok c.in_ok-begin_array.ensures.room.0)
    c.in_ok-add_each_range.ensures
    (last c.end_array.result c.add_each_range.new.json c.end_array.new.self _ c.end_array.ensures)
