-- The tokens, one part after another.
use Rattle.std.proofs.Common.{◌≡◌, ◌∙◌, ◌∷◌, ◌++◌, ap}
use Rattle.std.specs.Prelude.{codes}
use Rattle.json.specs.Token.{begin_object}
use Rattle.reh_model.specs.Cluster.{Cluster}
use Rattle.reh_answer.specs.Objects.{member_tokens}
use Rattle.reh_answer.proofs.ObjectLaws.{in_place, last, one, then}
use Rattle.reh_plan.specs.Objects.{bookies_json}
use Rattle.reh_plan.proofs.ObjectLaws.{after_bookies}
use Rattle.reh_plan.proofs.objects.add_all.Goals as goal

pub returns : goal.returns
returns c =
    let names : c.names.result.now ≡ c.args.planned.now.plan.state.names =
    c.names.ensures.names ∙ ap (λ (s : Cluster). s.names) c.state.ensures in
    in_place c.end_object.result c.args.json.now c.end_object.new.self _ _
    (λ i. begin_object ∷ (member_tokens (codes "bookies") (bookies_json (names i) (c.deref.ensures.value i))
    ++ after_bookies c.args.planned.now.summary (c.deref-2.ensures.value i) (c.deref-3.ensures.value i)))
    (then c.end_object.result c.args.json.now c.begin_object.new.self c.end_object.new.self _ _ (one c.args.json.now c.begin_object.new.self _ c.in_ok-begin_object.ensures.ok c.in_ok-begin_object.ensures.room.0)
    (then c.end_object.result c.begin_object.new.self c.add_bookies.new.json c.end_object.new.self _ _ c.in_ok-add_bookies.ensures
    (then c.end_object.result c.add_bookies.new.json c.add_number.new.json c.end_object.new.self _ _ c.in_ok-add_number.ensures
    (then c.end_object.result c.add_number.new.json c.add_ledgers.new.json c.end_object.new.self _ _ c.in_ok-add_ledgers.ensures
    (then c.end_object.result c.add_ledgers.new.json c.add_number-2.new.json c.end_object.new.self _ _ c.in_ok-add_number-2.ensures
    (then c.end_object.result c.add_number-2.new.json c.add_fewer_racks.new.json c.end_object.new.self _ _ c.in_ok-add_fewer_racks.ensures
    (then c.end_object.result c.add_fewer_racks.new.json c.add_full.new.json c.end_object.new.self _ _ c.in_ok-add_full.ensures
    (last c.end_object.result c.add_full.new.json c.end_object.new.self _ c.end_object.ensures))))))))
