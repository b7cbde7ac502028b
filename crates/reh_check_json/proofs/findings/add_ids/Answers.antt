-- A list between its brackets.
use Rattle.std.proofs.Common.{map, string_bytes}
use Rattle.std.specs.Prelude.{codes}
use Rattle.json.specs.Json.{string}
use Rattle.reh_answer.proofs.ObjectLaws.{in_place, last, list-tokens, one, then}
use Rattle.reh_check_json.proofs.findings.add_ids.Goals as goal

pub returns : goal.returns
returns c =
    in_place c.end_array.result c.args.json.now c.end_array.new.self _ _ (list-tokens (codes "near") string (map string_bytes c.args.ids.now))
    (then c.end_array.result c.args.json.now c.key.new.self c.end_array.new.self _ _ (one c.args.json.now c.key.new.self _ c.in_ok-key.ensures.ok c.in_ok-key.ensures.room.0)
    (then c.end_array.result c.key.new.self c.begin_array.new.self c.end_array.new.self _ _ (one c.key.new.self c.begin_array.new.self _ c.in_ok-begin_array.ensures.ok c.in_ok-begin_array.ensures.room.0)
    (then c.end_array.result c.begin_array.new.self c.add_texts.new.json c.end_array.new.self _ _ c.in_ok-add_texts.ensures
    (last c.end_array.result c.add_texts.new.json c.end_array.new.self _ c.end_array.ensures))))
