-- The ledgers that are left as tokens, and how deep the object is.
use Rattle.std.proofs.Common.{◌≡◌, ◌∙◌, ◌≤◌, ◌++◌, ◌∷◌, [], ℕ, List, refl, ap, sym, arith}
use Rattle.std.specs.Prelude.{codes, flat_map}
use Rattle.std.proofs.lemmas.Grind.{flat_map-append}
use Rattle.std.proofs.lemmas.List.{map-id}
use Rattle.json.specs.Json.{Json}
use Rattle.json.specs.Token.{Token, begin_array, end_array, key}
use Rattle.json.specs.Tree.{depth, items_depth, json_tokens}
use Rattle.reh_inventory.specs.declared.heads.Bookie.{Bookie}
use Rattle.reh_answer.specs.Objects.{items_of, list_json, member_tokens}
use Rattle.reh_answer.proofs.ObjectLaws.{items-depth, list-tokens}
use Rattle.reh_inventory_plan.specs.Objects.{bookie_json, left_json, left_tokens, left_values, ledgers_json, plans_value}
use Rattle.reh_inventory_plan.specs.declared.inventories.InventoryPlan.{InventoryPlan}
use Rattle.reh_inventory_plan.specs.declared.ledgers.Outcome.{Outcome}
use Rattle.reh_inventory_plan.specs.declared.ledgers.Outcome.TheVariants.{Planned, Unplanned as NotPlanned}

-- the tokens of what is left of each ledger are those of all of it
tokens-left : (outcomes : List Outcome) → flat_map left_tokens outcomes ≡ flat_map json_tokens (flat_map left_values outcomes)
tokens-left [] = refl
tokens-left (outcome ∷ outcomes) =
    ap (λ ts. left_tokens outcome ++ ts) (tokens-left outcomes)
    ∙ sym (flat_map-append json_tokens (left_values outcome) (flat_map left_values outcomes))

pub ledgers-tokens : (outcomes : List Outcome)
    → key (codes "ledgers") ∷ begin_array ∷ (flat_map left_tokens outcomes ++ end_array ∷ [])
    ≡ member_tokens (codes "ledgers") (ledgers_json outcomes)
ledgers-tokens outcomes =
    let values : List Json = flat_map left_values outcomes in
    ap (λ (ts : List Token). key (codes "ledgers") ∷ begin_array ∷ (ts ++ end_array ∷ [])) (tokens-left outcomes)
    ∙ list-tokens (codes "ledgers") (λ (v : Json). v) values
    ∙ ap (λ (vs : List Json). member_tokens (codes "ledgers") (list_json vs)) (map-id values)

-- How deep the object is

bookie-depth : (outcomes : List Outcome) (bookie : Bookie) → depth (bookie_json outcomes bookie) ≤ 1
unfolding bookie_json
bookie-depth outcomes bookie = omega arith

both-depth : (xs ys : List Json) (n : ℕ) → items_depth (items_of xs) ≤ n → items_depth (items_of ys) ≤ n
    → items_depth (items_of (xs ++ ys)) ≤ n
both-depth [] ys n one other = other
both-depth (x ∷ xs) ys n one other =
    let rest : items_depth (items_of xs) ≤ n = omega (arith, one) in
    omega (arith, one, both-depth xs ys n rest other)

left-depth : (outcome : Outcome) → items_depth (items_of (left_values outcome)) ≤ 1
left-depth (Planned planned) = items-depth left_json 1 (λ one. omega arith) planned.left.items
left-depth (NotPlanned ledger reason) = omega arith

ledgers-depth : (outcomes : List Outcome) → items_depth (items_of (flat_map left_values outcomes)) ≤ 1
ledgers-depth [] = omega arith
ledgers-depth (outcome ∷ outcomes) =
    both-depth (left_values outcome) (flat_map left_values outcomes) 1 (left-depth outcome) (ledgers-depth outcomes)

pub plans-depth : (plan : InventoryPlan) → depth (plans_value plan) ≤ 128
plans-depth plan =
    omega (
      arith,
      items-depth (bookie_json plan.outcomes.items) 1 (bookie-depth plan.outcomes.items) plan.head.bookies,
      ledgers-depth plan.outcomes.items,
    )
