use Rattle.std.proofs.Common.{◌∷◌, ap, Bool}
use Rattle.std.specs.Prelude.{codes}
use Rattle.reh_census_json.proofs.ValueLaws.{after_strict}
use Rattle.json.specs.Token.{begin_object, boolean, key}
use Rattle.reh_answer.proofs.ObjectLaws.{in_place, last, one, then}
use Rattle.reh_census_json.proofs.objects.add_all.Goals as goal

pub returns : goal.returns
returns c =
    in_place c.end_object.result c.args.json.now c.end_object.new.self _ _
    (ap (λ (strict : Bool). begin_object ∷ key (codes "strict") ∷ boolean strict ∷ after_strict c.args.census.now) c.is_strict.ensures)
    (then c.end_object.result c.args.json.now c.begin_object.new.self c.end_object.new.self _ _ (one c.args.json.now c.begin_object.new.self _ c.in_ok-begin_object.ensures.ok c.in_ok-begin_object.ensures.room.0)
    (then c.end_object.result c.begin_object.new.self c.add_flag.new.json c.end_object.new.self _ _ c.in_ok-add_flag.ensures
    (then c.end_object.result c.add_flag.new.json c.add_judged.new.json c.end_object.new.self _ _ c.in_ok-add_judged.ensures
    (then c.end_object.result c.add_judged.new.json c.add_bookies.new.json c.end_object.new.self _ _ c.in_ok-add_bookies.ensures
    (then c.end_object.result c.add_bookies.new.json c.add_entries.new.json c.end_object.new.self _ _ c.in_ok-add_entries.ensures
    (then c.end_object.result c.add_entries.new.json c.add_tails.new.json c.end_object.new.self _ _ c.in_ok-add_tails.ensures
    (then c.end_object.result c.add_tails.new.json c.add_ensembles.new.json c.end_object.new.self _ _ c.in_ok-add_ensembles.ensures
    (last c.end_object.result c.add_ensembles.new.json c.end_object.new.self _ c.end_object.ensures))))))))
