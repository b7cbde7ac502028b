-- How much there is in an inventory, as text and as a JSON value.
use Rattle.std.specs.Prelude.{ℕ, List, [], ◌++◌, length, count_by, codes, Option, None, Some}
use Rattle.std.specs.Fmt.{decimal}
use Rattle.json.specs.Json.{Json, object, string, no_members, member}
use Rattle.reh_answer.specs.Objects.{line_of, number_json}
use Rattle.reh_inventory.specs.Inventories.{Inventory}
use Rattle.reh_inventory.specs.declared.heads.Bookie.{Bookie}
use Rattle.reh_inventory.specs.declared.heads.Head.{Head}
use Rattle.reh_check_json.specs.declared.inventories.InventoryCounts.{InventoryCounts}

-- the bookies of the first line
abbrev pub bookies_of : Option Head → List Bookie
bookies_of None = []
bookies_of (Some head) = head.bookies

abbrev pub counts_of : Inventory → InventoryCounts
counts_of i = record {
  bookies = length (bookies_of i.head);
  up = count_by (λ b. b.is_up) (bookies_of i.head);
  ledgers = length i.ids;
  unread = i.unread;
}

-- a line for each kind of thing, and no line's end after the last
abbrev pub counts_text : InventoryCounts → List ℕ
counts_text c =
    codes "bookies "
    ++ (decimal c.bookies
    ++ (codes " up "
    ++ (decimal c.up ++ (codes "\nledgers " ++ (decimal c.ledgers ++ (codes " unread " ++ decimal c.unread))))))

abbrev pub inventory_value : InventoryCounts → Json
inventory_value c =
    object (
    member (codes "input") (string (codes "inventory"))
    (member (codes "bookies") (number_json c.bookies)
    (member (codes "up") (number_json c.up)
    (member (codes "ledgers") (number_json c.ledgers) (member (codes "unread") (number_json c.unread) no_members))))
    )

-- one object on one line
abbrev pub inventory_text : InventoryCounts → List ℕ
inventory_text c = line_of (inventory_value c)
