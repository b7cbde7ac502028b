-- A list between its brackets.
use Rattle.std.proofs.Common.{Ok}
use Rattle.std.specs.Prelude.{codes}
use Rattle.reh_lines.specs.Lines.{lines_of}
use Rattle.reh_answer.proofs.ObjectLaws.{in_place, one, then}
use Rattle.reh_check_json.specs.Scripts.{found}
use Rattle.reh_check_json.proofs.TokenLaws.{values-tokens}
use Rattle.reh_check_json.proofs.scripts.add_found.Goals as goal

pub returns-clause-adds : goal.returns-clause-adds
returns-clause-adds c =
    in_place (Ok tt) c.args.json.now c.end_array.new.self _ _ (values-tokens (codes "lines") (found c.args.known.now.state.now 1 (lines_of c.args.text.now)))
    (then (Ok tt) c.args.json.now c.key.new.self c.end_array.new.self _ _ (one c.args.json.now c.key.new.self _ c.in_ok-key.ensures.ok c.in_ok-key.ensures.room.0)
    (then (Ok tt) c.key.new.self c.begin_array.new.self c.end_array.new.self _ _ (one c.key.new.self c.begin_array.new.self _ c.in_ok-begin_array.ensures.ok c.in_ok-begin_array.ensures.room.0)
    (then (Ok tt) c.begin_array.new.self c.add_lines.new.json c.end_array.new.self _ _ c.in_ok-counts.ensures.adds
    (one c.add_lines.new.json c.end_array.new.self _ c.in_ok-end_array.ensures.ok c.in_ok-end_array.ensures.room.0))))
