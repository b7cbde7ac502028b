-- The tokens, one part after another.
use Rattle.json.specs.Tree.{json_tokens}
use Rattle.reh_answer.proofs.ObjectLaws.{in_place, last, one, then}
use Rattle.reh_check_json.specs.Scripts.{fault_with}
use Rattle.reh_check_json.proofs.findings.add_fault.Goals as goal

pub returns : goal.returns
returns c =
    in_place c.end_object.result c.args.json.now c.end_object.new.self _ _
    (λ i. json_tokens (fault_with c.args.number (c.fault_text.ensures i) (c.in_ok-near.ensures i)))
    (then c.end_object.result c.args.json.now c.begin_object.new.self c.end_object.new.self _ _ (one c.args.json.now c.begin_object.new.self _ c.in_ok-begin_object.ensures.ok c.in_ok-begin_object.ensures.room.0)
    (then c.end_object.result c.begin_object.new.self c.add_number.new.json c.end_object.new.self _ _ c.in_ok-add_number.ensures
    (then c.end_object.result c.add_number.new.json c.add_text.new.json c.end_object.new.self _ _ c.in_ok-add_text.ensures
    (then c.end_object.result c.add_text.new.json c.add_full_name.new.json c.end_object.new.self _ _ c.in_ok-add_full_name.ensures
    (then c.end_object.result c.add_full_name.new.json c.add_near.new.json c.end_object.new.self _ _ c.in_ok-add_near.ensures
    (last c.end_object.result c.add_near.new.json c.end_object.new.self _ c.end_object.ensures))))))
