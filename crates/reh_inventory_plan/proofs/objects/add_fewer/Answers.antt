-- The number is that of the fragments.
use Rattle.std.specs.Prelude.{codes}
use Rattle.reh_answer.specs.Objects.{member_tokens, number_json}
use Rattle.reh_answer.proofs.ObjectLaws.{in_place}
use Rattle.reh_inventory_plan.proofs.objects.add_fewer.Goals as goal

pub returns : goal.returns
returns c =
    in_place c.add_number.result c.args.json.now c.add_number.new.json _ _
    (λ i. member_tokens (codes "fragmentsInFewerRacks") (number_json (c.fewer_in.ensures i))) c.add_number.ensures
