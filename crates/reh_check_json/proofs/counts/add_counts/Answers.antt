-- The tokens, one part after another.
use Rattle.reh_answer.proofs.ObjectLaws.{then}
use Rattle.reh_check_json.proofs.counts.add_counts.Goals as goal

pub returns : goal.returns
returns c =
    then c.add_sizes.result c.args.json.now c.add_parts.new.json c.add_sizes.new.json _ _ c.in_ok-add_parts.ensures
    c.add_sizes.ensures
