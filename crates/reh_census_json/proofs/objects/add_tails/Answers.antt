use Rattle.std.proofs.Common.{◌∙◌, ap, map}
use Rattle.std.specs.Prelude.{codes}
use Rattle.reh_census.specs.Counting.{Census}
use Rattle.reh_answer.specs.Objects.{list_json, member_tokens}
use Rattle.reh_census_json.specs.Objects as model
use Rattle.reh_answer.proofs.ObjectLaws.{in_place, last, list-tokens, one, then}
use Rattle.reh_census_json.proofs.objects.add_tails.Goals as goal

pub returns : goal.returns
returns c =
    in_place c.end_array.result c.args.json.now c.end_array.new.self _ _
    (list-tokens (codes "tails") (model.tail_json c.names.result.now) c.tails.result.now
    ∙ (λ i. member_tokens (codes "tails") (list_json (map (model.tail_json (c.names.ensures i))
    ((c.tails.ensures.tails ∙ ap (λ (census : Census). census.tails) c.census.ensures) i)))))
    (then c.end_array.result c.args.json.now c.key.new.self c.end_array.new.self _ _ (one c.args.json.now c.key.new.self _ c.in_ok-key.ensures.ok c.in_ok-key.ensures.room.0)
    (then c.end_array.result c.key.new.self c.begin_array.new.self c.end_array.new.self _ _ (one c.key.new.self c.begin_array.new.self _ c.in_ok-begin_array.ensures.ok c.in_ok-begin_array.ensures.room.0)
    (then c.end_array.result c.begin_array.new.self c.add_each_tail.new.json c.end_array.new.self _ _ c.in_ok-add_each_tail.ensures
    (last c.end_array.result c.add_each_tail.new.json c.end_array.new.self _ c.end_array.ensures))))
