-- What plans for the ledgers of an inventory come to, as a JSON value.
use Rattle.std.specs.Prelude.{ℕ, List, [], ◌∷◌, codes, count_by, flat_map, map}
use Rattle.json.specs.Json.{Json, object, string, no_members, member}
use Rattle.json.specs.Token.{Token}
use Rattle.json.specs.Tree.{json_tokens}
use Rattle.reh_answer.specs.Objects.{line_of, list_json, number_json}
use Rattle.reh_inventory.specs.declared.heads.Bookie.{Bookie}
use Rattle.reh_plan.specs.Reasons.{kind_of, reason_text}
use Rattle.reh_plan.specs.declared.reasons.Left.{Left}
use Rattle.reh_inventory_plan.specs.Faults.{unplanned_text}
use Rattle.reh_inventory_plan.specs.Totals.{counts, fewer_in, given_in, unplanned_kind, unreadable_in}
use Rattle.reh_inventory_plan.specs.declared.faults.Unplanned.{Unplanned}
use Rattle.reh_inventory_plan.specs.declared.inventories.InventoryPlan.{InventoryPlan}
use Rattle.reh_inventory_plan.specs.declared.ledgers.Outcome.{Outcome}
use Rattle.reh_inventory_plan.specs.declared.ledgers.Outcome.TheVariants.{Planned, Unplanned as NotPlanned}
use Rattle.reh_inventory_plan.specs.declared.totals.Counted.{Counted}
use Rattle.reh_inventory_plan.specs.declared.totals.Counted.TheVariants as counted
use Rattle.reh_inventory_plan.specs.declared.totals.Given.{Given}

-- how many ledgers that holds of
abbrev pub count_json : Counted → List Outcome → Json
count_json word outcomes = number_json (count_by (counts word) outcomes)

-- What bookies are given

abbrev pub given_json : List ℕ → Given → Json
given_json name given =
    object (
    member (codes "name") (string name)
    (member (codes "places") (number_json given.places)
    (member (codes "entries") (number_json given.entries) (member (codes "bytes") (number_json given.bytes) no_members)))
    )

unfoldable pub bookie_json : List Outcome → Bookie → Json
bookie_json outcomes bookie = given_json bookie.name (given_in bookie.name outcomes)

-- also those that are given nothing
abbrev pub bookies_json : List Outcome → List Bookie → Json
bookies_json outcomes bookies = list_json (map (bookie_json outcomes) bookies)

-- What is left

-- a ledger, and the kind and the text of its reason
abbrev pub reason_json : ℕ → List ℕ → List ℕ → Json
reason_json ledger kind text =
    object (
    member (codes "ledger") (number_json ledger)
    (member (codes "reason") (string kind) (member (codes "text") (string text) no_members))
    )

abbrev pub left_json : Left → Json
left_json left = reason_json left.ledger (kind_of left.reason) (reason_text left.reason)

abbrev pub unplanned_json : ℕ → Unplanned → Json
unplanned_json ledger reason = reason_json ledger (unplanned_kind reason) (unplanned_text reason)

abbrev pub left_values : Outcome → List Json
left_values (Planned planned) = map left_json planned.left.items
left_values (NotPlanned ledger reason) = unplanned_json ledger reason ∷ []

abbrev pub ledgers_json : List Outcome → Json
ledgers_json outcomes = list_json (flat_map left_values outcomes)

-- Sums over all ledgers

-- how many entries can't be read
abbrev pub lost_json : List Outcome → Json
lost_json outcomes = number_json (unreadable_in outcomes)

-- how many fragments have a write set that may stand in fewer racks
abbrev pub fewer_json : List Outcome → Json
fewer_json outcomes = number_json (fewer_in outcomes)

-- All of it

-- how many ledgers there are, how many were not read, for how many there is a plan, and of how many of these the bytes aren't
-- known
abbrev pub inventory_with : ℕ → ℕ → List Outcome → Json
inventory_with ledgers unread outcomes =
    object (
    member (codes "ledgers") (number_json ledgers)
    (member (codes "unread") (number_json unread)
    (member (codes "plannedFor") (count_json counted.Planned outcomes)
    (member (codes "withoutLength") (count_json counted.Unsized outcomes) no_members)))
    )

abbrev pub inventory_json : InventoryPlan → Json
inventory_json plan = inventory_with plan.ledgers plan.unread plan.outcomes.items

-- what bookies are given, how many ledgers are left, which and why, how many entries can't be read, how many ledgers are closed
-- so that entries may be missing, how many scripts are full, and how many fragments may stand in fewer racks
abbrev pub plans_with : Json → List Bookie → List Outcome → Json
plans_with inventory bookies outcomes =
    object (
    member (codes "inventory") inventory
    (member (codes "bookies") (bookies_json outcomes bookies)
    (member (codes "left") (count_json counted.Left outcomes)
    (member (codes "ledgers") (ledgers_json outcomes)
    (member (codes "lost") (lost_json outcomes)
    (member (codes "closedEmpty") (count_json counted.ClosedEmpty outcomes)
    (member (codes "closedShort") (count_json counted.ClosedShort outcomes)
    (member (codes "full") (count_json counted.Full outcomes)
    (member (codes "fragmentsInFewerRacks") (fewer_json outcomes) no_members))))))))
    )

abbrev pub plans_value : InventoryPlan → Json
plans_value plan = plans_with (inventory_json plan) plan.head.bookies plan.outcomes.items

-- one object on one line
abbrev pub json_of : InventoryPlan → List ℕ
json_of plan = line_of (plans_value plan)

-- What a call adds

-- the tokens of what is left of a ledger
abbrev pub left_tokens : Outcome → List Token
left_tokens outcome = flat_map json_tokens (left_values outcome)
