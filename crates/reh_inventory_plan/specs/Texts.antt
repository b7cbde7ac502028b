-- What plans for the ledgers of an inventory come to, in words.
use Rattle.std.specs.Prelude.{ℕ, List, [], ◌∷◌, ◌++◌, ◌==◌, codes, count_by, flat_map, if◌then◌else◌}
use Rattle.std.specs.Fmt.{decimal}
use Rattle.reh_commands.specs.Texts.{spaced}
use Rattle.reh_inventory.specs.declared.heads.Bookie.{Bookie}
use Rattle.reh_plan.specs.Reasons.{kinds, reason_text}
use Rattle.reh_plan.specs.declared.reasons.Left.{Left}
use Rattle.reh_inventory_plan.specs.Faults.{unplanned_text}
use Rattle.reh_inventory_plan.specs.Totals.{counts, fewer_in, given_in, is_left_for, is_nothing, unreadable_in}
use Rattle.reh_inventory_plan.specs.declared.inventories.InventoryPlan.{InventoryPlan}
use Rattle.reh_inventory_plan.specs.declared.ledgers.Outcome.{Outcome}
use Rattle.reh_inventory_plan.specs.declared.ledgers.Outcome.TheVariants.{Planned, Unplanned as NotPlanned}
use Rattle.reh_inventory_plan.specs.declared.totals.Counted.TheVariants as counted
use Rattle.reh_inventory_plan.specs.declared.totals.Given.{Given}

-- a line of words and a number
abbrev pub count_line : List ℕ → ℕ → List ℕ
count_line words count = words ++ (codes " " ++ (decimal count ++ codes "\n"))

-- the same, if the number isn't 0
abbrev pub count_if_some : List ℕ → ℕ → List ℕ
count_if_some words count = if count == 0 then [] else count_line words count

-- the line of a bookie that is given this, if that is something
abbrev pub given_line : List ℕ → Given → List ℕ
given_line name given =
    if is_nothing given then []
    else (spaced (codes "bookie" ∷ name ∷ codes "places" ∷ decimal given.places ∷ codes "entries" ∷ decimal given.entries
    ∷ codes "bytes" ∷ decimal given.bytes ∷ []) ++ codes "\n")

unfoldable pub bookie_line : List Outcome → Bookie → List ℕ
bookie_line outcomes bookie = given_line bookie.name (given_in bookie.name outcomes)

-- how many ledgers are left for a reason of that kind, if some are
unfoldable pub kind_line : List Outcome → List ℕ → List ℕ
kind_line outcomes kind =
    if count_by (is_left_for kind) outcomes == 0 then []
    else (codes "left: " ++ (kind ++ (codes " " ++ (decimal (count_by (is_left_for kind) outcomes) ++ codes "\n"))))

-- that a ledger is left, and why
abbrev pub left_line : ℕ → List ℕ → List ℕ
left_line ledger why = codes "ledger " ++ (decimal ledger ++ (codes " is left: " ++ (why ++ codes "\n")))

abbrev pub lines_of_left : List Left → List ℕ
lines_of_left left = flat_map (λ (l : Left). left_line l.ledger (reason_text l.reason)) left

abbrev pub left_lines : Outcome → List ℕ
left_lines (Planned planned) = lines_of_left planned.left.items
left_lines (NotPlanned id reason) = left_line id (unplanned_text reason)

-- how many ledgers there are, how many of them were not read, and how many were planned for
unfoldable pub head_text : InventoryPlan → List ℕ
head_text plan =
    count_line (codes "ledgers") plan.ledgers ++ count_if_some (codes "ledgers unread") plan.unread
    ++ count_line (codes "ledgers planned for") (count_by (counts counted.Planned) plan.outcomes.items)

-- by the kinds of reasons that a plan has
unfoldable pub kinds_text : List Outcome → List ℕ
kinds_text outcomes = flat_map (kind_line outcomes) kinds

-- how many are left, and how many of them for each kind of reason
unfoldable pub left_text : List Outcome → List ℕ
left_text outcomes =
    count_line (codes "ledgers left") (count_by (counts counted.Left) outcomes) ++ kinds_text outcomes
    ++ kind_line outcomes (codes "no picture") ++ kind_line outcomes (codes "no plan")

-- how many entries can't be read in the end, and how many ledgers are closed so that entries may be missing
unfoldable pub lost_text : List Outcome → List ℕ
lost_text outcomes =
    count_line (codes "entries lost") (unreadable_in outcomes)
    ++ count_if_some (codes "closed with an empty last fragment") (count_by (counts counted.ClosedEmpty) outcomes)
    ++ count_if_some (codes "closed before an entry that some bookie holds") (count_by (counts counted.ClosedShort) outcomes)

-- how many scripts are full, how many fragments are in fewer racks, and of how many ledgers the bytes aren't known
unfoldable pub rest_text : List Outcome → List ℕ
rest_text outcomes =
    count_if_some (codes "scripts full") (count_by (counts counted.Full) outcomes)
    ++ count_if_some (codes "fragments in fewer racks") (fewer_in outcomes)
    ++ count_if_some (codes "ledgers without a length") (count_by (counts counted.Unsized) outcomes)

abbrev pub plans_text : InventoryPlan → List ℕ
plans_text plan =
    head_text plan ++ flat_map (bookie_line plan.outcomes.items) plan.head.bookies ++ left_text plan.outcomes.items
    ++ lost_text plan.outcomes.items ++ rest_text plan.outcomes.items ++ flat_map left_lines plan.outcomes.items
