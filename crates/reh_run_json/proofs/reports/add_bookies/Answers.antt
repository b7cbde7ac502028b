-- A list between its brackets.
use Rattle.std.specs.List.{enumerate_from}
use Rattle.reh_run_json.specs.Reports.{bookie_json}
use Rattle.reh_answer.proofs.ObjectLaws.{last, one, then}
use Rattle.reh_run_json.proofs.TokenLaws.{mapped-added}
use Rattle.reh_run_json.proofs.reports.add_bookies.Goals as goal

pub returns : goal.returns
returns c =
    then c.end_array.result c.args.json.now c.key.new.self c.end_array.new.self _ _ (one c.args.json.now c.key.new.self _ c.in_ok-key.ensures.ok c.in_ok-key.ensures.room.0)
    (mapped-added (λ place. bookie_json c.args.state.now place.0 place.1) (enumerate_from 0 c.args.state.now.names) c.end_array.result c.key.new.self c.begin_array.new.self c.add_each_bookie.new.json c.end_array.new.self
    (one c.key.new.self c.begin_array.new.self _ c.in_ok-begin_array.ensures.ok c.in_ok-begin_array.ensures.room.0)
    c.in_ok-add_each_bookie.ensures
    (last c.end_array.result c.add_each_bookie.new.json c.end_array.new.self _ c.end_array.ensures))
