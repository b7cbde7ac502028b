-- The tokens, one part after another.
use Rattle.reh_answer.proofs.ObjectLaws.{then}
use Rattle.reh_check_json.proofs.counts.add_parts.Goals as goal

pub returns : goal.returns
returns c =
    then c.add_number-6.result c.args.json.now c.add_text.new.json c.add_number-6.new.json _ _ c.in_ok-add_text.ensures
    (then c.add_number-6.result c.add_text.new.json c.add_number.new.json c.add_number-6.new.json _ _ c.in_ok-add_number.ensures
    (then c.add_number-6.result c.add_number.new.json c.add_number-2.new.json c.add_number-6.new.json _ _ c.in_ok-add_number-2.ensures
    (then c.add_number-6.result c.add_number-2.new.json c.add_number-3.new.json c.add_number-6.new.json _ _ c.in_ok-add_number-3.ensures
    (then c.add_number-6.result c.add_number-3.new.json c.add_number-4.new.json c.add_number-6.new.json _ _ c.in_ok-add_number-4.ensures
    (then c.add_number-6.result c.add_number-4.new.json c.add_number-5.new.json c.add_number-6.new.json _ _ c.in_ok-add_number-5.ensures
    c.add_number-6.ensures)))))
