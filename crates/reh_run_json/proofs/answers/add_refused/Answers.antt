-- The tokens, one part after another.
use Rattle.reh_answer.proofs.ObjectLaws.{one, then}
use Rattle.reh_run_json.proofs.answers.add_refused.Goals as goal

pub returns : goal.returns
returns c =
    then c.add_refusal.result c.args.json.now c.add_text.new.json c.add_refusal.new.json _ _ c.in_ok-add_text.ensures
    (then c.add_refusal.result c.add_text.new.json c.key.new.self c.add_refusal.new.json _ _ (one c.add_text.new.json c.key.new.self _ c.in_ok-key.ensures.ok c.in_ok-key.ensures.room.0)
    c.add_refusal.ensures)
