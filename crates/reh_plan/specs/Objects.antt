-- What a plan comes to, as a JSON value.
use Rattle.std.specs.Prelude.{ℕ, List, map, codes}
use Rattle.json.specs.Json.{Json, boolean, object, string, no_members, member}
use Rattle.reh_answer.specs.Objects.{line_of, list_json, number_json}
use Rattle.reh_commands.specs.Texts.{name_of}
use Rattle.reh_plan.specs.Reasons.{kind_of, reason_text}
use Rattle.reh_plan.specs.declared.fewer.FewerRacks.{FewerRacks}
use Rattle.reh_plan.specs.declared.planning.Planned.{Planned}
use Rattle.reh_plan.specs.declared.reasons.Left.{Left}
use Rattle.reh_plan.specs.declared.summaries.Share.{Share}

-- What bookies are given

-- a bookie's name, or its number where the names have none for it
abbrev pub name_json : List (List ℕ) → ℕ → Json
name_json names bookie = string (name_of names bookie)

abbrev pub share_json : List (List ℕ) → Share → Json
share_json names share =
    object (
    member (codes "name") (name_json names share.bookie)
    (member (codes "places") (number_json share.places) (member (codes "entries") (number_json share.entries) no_members))
    )

-- also of those that are given nothing
abbrev pub bookies_json : List (List ℕ) → List Share → Json
bookies_json names shares = list_json (map (share_json names) shares)

-- What is left

-- a ledger, and the kind and the text of its reason
abbrev pub left_json : Left → Json
left_json left =
    object (
    member (codes "ledger") (number_json left.ledger)
    (member (codes "reason") (string (kind_of left.reason))
    (member (codes "text") (string (reason_text left.reason)) no_members))
    )

abbrev pub ledgers_json : List Left → Json
ledgers_json left = list_json (map left_json left)

-- Where fewer racks may hold copies

abbrev pub fragment_json : FewerRacks → Json
fragment_json fewer =
    object (
    member (codes "ledger") (number_json fewer.ledger)
    (member (codes "fragment") (number_json fewer.fragment) (member (codes "racks") (number_json fewer.racks) no_members))
    )

abbrev pub fewer_json : List FewerRacks → Json
fewer_json fewer = list_json (map fragment_json fewer)

-- All of it

-- what bookies are given, how many ledgers are left, which and why, how many entries can't be read, where fewer racks
-- may hold copies, and whether the script is full
abbrev pub plan_value : Planned → Json
plan_value p =
    object (
    member (codes "bookies") (bookies_json p.plan.state.names p.summary.shares.items)
    (member (codes "left") (number_json p.summary.left) (member (codes "ledgers") (ledgers_json p.left.items)
    (member (codes "lost") (number_json p.summary.unreadable) (member (codes "fewerRacks") (fewer_json p.fewer.items)
    (member (codes "full") (boolean p.summary.is_full) no_members)))))
    )

-- one object on one line
abbrev pub json_of : Planned → List ℕ
json_of p = line_of (plan_value p)
