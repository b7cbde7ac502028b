-- What is left of a ledger that has a plan.
use Rattle.std.proofs.Common.{◌∙◌, List, ap, sym}
use Rattle.std.specs.Prelude.{flat_map}
use Rattle.std.proofs.lemmas.List.Folds.{flat_map-map}
use Rattle.json.specs.Tree.{json_tokens}
use Rattle.reh_answer.proofs.ObjectLaws.{in_place}
use Rattle.reh_plan.specs.declared.reasons.Left.{Left}
use Rattle.reh_inventory_plan.specs.Objects.{left_json, left_tokens}
use Rattle.reh_inventory_plan.specs.declared.ledgers.Outcome.{Outcome}
use Rattle.reh_inventory_plan.proofs.objects.add_outcome.Goals as goal

pub returns-in-Planned : goal.returns-in-Planned
returns-in-Planned c =
    in_place c.add_each_left.result c.args.json.now c.add_each_left.new.json _ _
    (ap (λ (ls : List Left). flat_map (λ l. json_tokens (left_json l)) ls) c.deref.ensures.value
    ∙ sym (flat_map-map json_tokens left_json c.in-Planned.planned.left.items)
    ∙ ap (λ (o : Outcome). left_tokens o) (sym c.in-Planned.is))
    c.add_each_left.ensures
