use Rattle.std.proofs.Common.{◌∙◌, ap}
use Rattle.reh_answer.specs.Objects.{member_tokens}
use Rattle.reh_census_json.specs.Objects as model
use Rattle.reh_answer.proofs.ObjectLaws.{in_place, last, list-tokens, one, then}
use Rattle.reh_census_json.proofs.members.add_names.Goals as goal

pub returns : goal.returns
returns c =
    in_place c.end_array.result c.args.json.now c.end_array.new.self _ _
    (list-tokens c.args.name.now (model.name_json c.args.names.now) c.as_slice.result.now
    ∙ ap (λ numbers. member_tokens c.args.name.now (model.names_json c.args.names.now numbers)) c.as_slice.ensures)
    (then c.end_array.result c.args.json.now c.key.new.self c.end_array.new.self _ _ (one c.args.json.now c.key.new.self _ c.in_ok-key.ensures.ok c.in_ok-key.ensures.room.0)
    (then c.end_array.result c.key.new.self c.begin_array.new.self c.end_array.new.self _ _ (one c.key.new.self c.begin_array.new.self _ c.in_ok-begin_array.ensures.ok c.in_ok-begin_array.ensures.room.0)
    (then c.end_array.result c.begin_array.new.self c.add_each.new.json c.end_array.new.self _ _ c.in_ok-add_each.ensures
    (last c.end_array.result c.add_each.new.json c.end_array.new.self _ c.end_array.ensures))))
