use Rattle.std.specs.Prelude.{codes}
use Rattle.reh_answer.specs.Objects as objects
use Rattle.reh_answer.proofs.ObjectLaws.{in_place, last, one, then}
use Rattle.reh_answer.proofs.objects.add_copies.Goals as goal

pub returns : goal.returns
returns c =
    in_place c.end_object.result c.args.json.now c.end_object.new.self _ _ (λ i. objects.member_tokens (codes "copies") (objects.copies_with (c.as_slice.ensures i) (c.as_slice-2.ensures i)))
    (then c.end_object.result c.args.json.now c.key.new.self c.end_object.new.self _ _ (one c.args.json.now c.key.new.self _ c.in_ok-key.ensures.ok c.in_ok-key.ensures.room.0)
    (then c.end_object.result c.key.new.self c.begin_object.new.self c.end_object.new.self _ _ (one c.key.new.self c.begin_object.new.self _ c.in_ok-begin_object.ensures.ok c.in_ok-begin_object.ensures.room.0)
    (then c.end_object.result c.begin_object.new.self c.add_counts.new.json c.end_object.new.self _ _ c.in_ok-add_counts.ensures
    (then c.end_object.result c.add_counts.new.json c.add_counts-2.new.json c.end_object.new.self _ _ c.in_ok-add_counts-2.ensures
    (last c.end_object.result c.add_counts-2.new.json c.end_object.new.self _ c.end_object.ensures)))))
