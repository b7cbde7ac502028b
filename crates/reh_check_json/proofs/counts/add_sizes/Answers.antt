-- The tokens, one part after another.
use Rattle.reh_answer.proofs.ObjectLaws.{then}
use Rattle.reh_check_json.proofs.counts.add_sizes.Goals as goal

pub returns : goal.returns
returns c =
    then c.add_number-3.result c.args.json.now c.add_number.new.json c.add_number-3.new.json _ _ c.in_ok-add_number.ensures
    (then c.add_number-3.result c.add_number.new.json c.add_entries.new.json c.add_number-3.new.json _ _ c.in_ok-add_entries.ensures
    (then c.add_number-3.result c.add_entries.new.json c.add_number-2.new.json c.add_number-3.new.json _ _ c.in_ok-add_number-2.ensures
    c.add_number-3.ensures))
