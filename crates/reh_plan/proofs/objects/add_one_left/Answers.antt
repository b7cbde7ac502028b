-- The tokens, one part after another.
use Rattle.std.proofs.Common.{◌∙◌, ◌∷◌, ◌++◌, []}
use Rattle.std.specs.Prelude.{codes}
use Rattle.json.specs.Json.{string}
use Rattle.json.specs.Token.{begin_object, end_object}
use Rattle.reh_answer.specs.Objects.{member_tokens, number_json}
use Rattle.reh_answer.proofs.ObjectLaws.{in_place, last, one, then}
use Rattle.reh_plan.proofs.objects.add_one_left.Goals as goal

pub returns : goal.returns
returns c =
    let text = c.as_str.ensures.value ∙ c.in_ok-text.ensures.ok in
    in_place c.end_object.result c.args.json.now c.end_object.new.self _ _
    (λ i. begin_object ∷ (member_tokens (codes "ledger") (number_json c.args.left.now.ledger)
    ++ (member_tokens (codes "reason") (string (c.kind.ensures.kind i)) ++ (member_tokens (codes "text") (string (text i)) ++ end_object ∷ []))))
    (then c.end_object.result c.args.json.now c.begin_object.new.self c.end_object.new.self _ _ (one c.args.json.now c.begin_object.new.self _ c.in_ok-begin_object.ensures.ok c.in_ok-begin_object.ensures.room.0)
    (then c.end_object.result c.begin_object.new.self c.add_ledger.new.json c.end_object.new.self _ _ c.in_ok-add_ledger.ensures
    (then c.end_object.result c.add_ledger.new.json c.add_text.new.json c.end_object.new.self _ _ c.in_ok-add_text.ensures
    (then c.end_object.result c.add_text.new.json c.add_text-2.new.json c.end_object.new.self _ _ c.in_ok-add_text-2.ensures
    (last c.end_object.result c.add_text-2.new.json c.end_object.new.self _ c.end_object.ensures)))))
