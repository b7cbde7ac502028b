use Rattle.std.specs.Prelude.{codes}
use Rattle.reh_answer.proofs.ObjectLaws.{in_place, last, one, texts-tokens, then}
use Rattle.reh_answer.proofs.objects.add_notes.Goals as goal

pub returns : goal.returns
returns c =
    in_place c.end_array.result c.args.json.now c.end_array.new.self _ _ (texts-tokens (codes "notes") c.args.notes.now c.args.further.now)
    (then c.end_array.result c.args.json.now c.key.new.self c.end_array.new.self _ _ (one c.args.json.now c.key.new.self _ c.in_ok-key.ensures.ok c.in_ok-key.ensures.room.0)
    (then c.end_array.result c.key.new.self c.begin_array.new.self c.end_array.new.self _ _ (one c.key.new.self c.begin_array.new.self _ c.in_ok-begin_array.ensures.ok c.in_ok-begin_array.ensures.room.0)
    (then c.end_array.result c.begin_array.new.self c.add_texts.new.json c.end_array.new.self _ _ c.in_ok-add_texts.ensures
    (then c.end_array.result c.add_texts.new.json c.add_texts-2.new.json c.end_array.new.self _ _ c.in_ok-add_texts-2.ensures
    (last c.end_array.result c.add_texts-2.new.json c.end_array.new.self _ c.end_array.ensures)))))
