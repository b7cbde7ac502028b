-- The tokens, one part after another.
use Rattle.std.proofs.Common.{◌≡◌, ◌∙◌, List, ap, map, string_bytes, String, Global}
use Rattle.json.specs.Tree.{json_tokens}
use Rattle.reh_answer.proofs.ObjectLaws.{in_place, last, one, then}
use Rattle.reh_lint.specs.Ledgers.{ids_of}
use Rattle.reh_near.specs.Near.{nearest_ids}
use Rattle.reh_check_json.specs.Scripts.{missing_with}
use Rattle.reh_check_json.proofs.findings.add_absent.Goals as goal

pub returns : goal.returns
returns c =
    let near : map string_bytes c.deref.result.now ≡ nearest_ids (ids_of c.args.known.now.state.now) c.args.ledger =
    ap (λ (ids : List (String Global)). map string_bytes ids) c.deref.ensures.value ∙ c.in_ok-near.ensures in
    in_place c.end_object.result c.args.json.now c.end_object.new.self _ _
    (λ i. json_tokens (missing_with c.args.number c.args.ledger (near i)))
    (then c.end_object.result c.args.json.now c.begin_object.new.self c.end_object.new.self _ _ (one c.args.json.now c.begin_object.new.self _ c.in_ok-begin_object.ensures.ok c.in_ok-begin_object.ensures.room.0)
    (then c.end_object.result c.begin_object.new.self c.add_number.new.json c.end_object.new.self _ _ c.in_ok-add_number.ensures
    (then c.end_object.result c.add_number.new.json c.add_number-2.new.json c.end_object.new.self _ _ c.in_ok-add_number-2.ensures
    (then c.end_object.result c.add_number-2.new.json c.add_ids.new.json c.end_object.new.self _ _ c.in_ok-add_ids.ensures
    (last c.end_object.result c.add_ids.new.json c.end_object.new.self _ c.end_object.ensures)))))
