use Rattle.std.proofs.Common.{◌∷◌, List, ap}
use Rattle.json.specs.Token.{Token, begin_object}
use Rattle.std.proofs.Common.{◌∷◌, List, ap}
use Rattle.json.specs.Token.{Token}
use Rattle.reh_answer.proofs.ObjectLaws.{answer-first, in_place, in_place, last, one, then}
use Rattle.reh_answer.proofs.objects.add_all.Goals as goal

pub returns : goal.returns
returns c =
    in_place c.end_object.result c.args.json.now c.end_object.new.self _ _
    (ap (λ (ts : List Token). begin_object ∷ ts) (answer-first c.args.facts.now.answer _))
    (then c.end_object.result c.args.json.now c.begin_object.new.self c.end_object.new.self _ _ (one c.args.json.now c.begin_object.new.self _ c.in_ok-begin_object.ensures.ok c.in_ok-begin_object.ensures.room.0)
    (then c.end_object.result c.begin_object.new.self c.add_answer.new.json c.end_object.new.self _ _ c.in_ok-add_answer.ensures
    (then c.end_object.result c.add_answer.new.json c.add_rules.new.json c.end_object.new.self _ _ c.in_ok-add_rules.ensures
    (then c.end_object.result c.add_rules.new.json c.add_judged.new.json c.end_object.new.self _ _ c.in_ok-add_judged.ensures
    (then c.end_object.result c.add_judged.new.json c.add_copies.new.json c.end_object.new.self _ _ c.in_ok-add_copies.ensures
    (then c.end_object.result c.add_copies.new.json c.add_against.new.json c.end_object.new.self _ _ c.in_ok-add_against.ensures
    (then c.end_object.result c.add_against.new.json c.add_notes.new.json c.end_object.new.self _ _ c.in_ok-add_notes.ensures
    (last c.end_object.result c.add_notes.new.json c.end_object.new.self _ c.end_object.ensures))))))))
