-- What plans for the ledgers of an inventory come to together. Numbers are added up to 2^64 - 1.
use Rattle.std.specs.Prelude.{ℕ, ◌+◌, ◌*◌, ◌/◌, ◌==◌, ◌&&◌, min, nat_le, Bool, true, false, not, List, codes, count_by, fold, length, map}
use Rattle.std.specs.Prelude.{Option, None, Some, bytes_eq, if◌then◌else◌}
use Rattle.std.specs.List.{list_any}
use Rattle.std.specs.Option.{is_none}
use Rattle.reh_plan.specs.Reasons.{kind_of}
use Rattle.reh_plan.specs.declared.reasons.Left.{Left}
use Rattle.reh_inventory_plan.specs.declared.faults.Unplanned.{Unplanned}
use Rattle.reh_inventory_plan.specs.declared.faults.Unplanned.TheVariants.{NoMemory, NoPicture, NoPlan}
use Rattle.reh_inventory_plan.specs.declared.inventories.InventoryPlan.{InventoryPlan}
use Rattle.reh_inventory_plan.specs.declared.ledgers.NamedShare.{NamedShare}
use Rattle.reh_inventory_plan.specs.declared.ledgers.Outcome.{Outcome}
use Rattle.reh_inventory_plan.specs.declared.ledgers.Outcome.TheVariants.{Planned, Unplanned as NotPlanned}
use Rattle.reh_inventory_plan.specs.declared.ledgers.Size.{Size}
use Rattle.reh_inventory_plan.specs.declared.ledgers.PlannedLedger.{PlannedLedger}
use Rattle.reh_inventory_plan.specs.declared.totals.Counted.{Counted}
use Rattle.reh_inventory_plan.specs.declared.totals.Counted.TheVariants as counted
use Rattle.reh_inventory_plan.specs.declared.totals.Given.{Given}

-- the greatest number that is counted
abbrev pub most : ℕ
most = 18446744073709551615

abbrev pub plus : ℕ → ℕ → ℕ
plus a b = min (a + b) most

-- What bookies are given

abbrev pub nothing : Given
nothing = record { places = 0; entries = 0; bytes = 0 }

abbrev pub is_nothing : Given → Bool
is_nothing given = (given.places == 0) && (given.entries == 0)

abbrev pub together : Given → Given → Given
together one other = record {
  places = plus one.places other.places;
  entries = plus one.entries other.entries;
  bytes = plus one.bytes other.bytes;
}

-- about how many bytes so many entries of a ledger of that size have: as large a part of its length
abbrev pub part_of : Size → ℕ → ℕ
part_of size entries =
    if nat_le size.entries entries then size.bytes else min (size.bytes * entries / size.entries) most

abbrev pub bytes_of : Option Size → ℕ → ℕ
bytes_of None entries = 0
bytes_of (Some size) entries = part_of size entries

-- what the bookie of that name is given by the share, of a ledger of that size
abbrev pub given_by : List ℕ → Option Size → NamedShare → Given
given_by name size share =
    if bytes_eq share.bookie name
    then record { places = share.places; entries = share.entries; bytes = bytes_of size share.entries }
    else nothing

abbrev pub given_among : List ℕ → Option Size → List NamedShare → Given
given_among name size shares = fold together nothing (map (given_by name size) shares)

abbrev pub given_of : List ℕ → Outcome → Given
given_of name (Planned planned) = given_among name planned.size planned.shares.items
given_of name (NotPlanned id reason) = nothing

-- what it is given by all plans
abbrev pub given_in : List ℕ → List Outcome → Given
given_in name outcomes = fold together nothing (map (given_of name) outcomes)

-- Ledgers

-- whether that holds of a ledger that has a plan
abbrev pub counts_planned : Counted → PlannedLedger → Bool
counts_planned counted.Planned planned = true
counts_planned counted.Left planned = not (length planned.left.items == 0)
counts_planned counted.Full planned = planned.is_full
counts_planned counted.ClosedEmpty planned = planned.is_closed_empty
counts_planned counted.ClosedShort planned = planned.is_closed_short
counts_planned counted.Unsized planned = is_none planned.size

-- of one that has none only that it is left
abbrev pub is_left_word : Counted → Bool
is_left_word counted.Left = true
is_left_word other = false

abbrev pub counts : Counted → Outcome → Bool
counts word (Planned planned) = counts_planned word planned
counts word (NotPlanned id reason) = is_left_word word

abbrev pub unplanned_kind : Unplanned → List ℕ
unplanned_kind (NoPicture fault) = codes "no picture"
unplanned_kind (NoPlan fault) = codes "no plan"
unplanned_kind NoMemory = codes "no memory"

abbrev pub has_kind : List ℕ → List Left → Bool
has_kind kind left = list_any (λ (l : Left). bytes_eq (kind_of l.reason) kind) left

-- whether it is left for a reason of that kind
abbrev pub is_left_for : List ℕ → Outcome → Bool
is_left_for kind (Planned planned) = has_kind kind planned.left.items
is_left_for kind (NotPlanned id reason) = bytes_eq (unplanned_kind reason) kind

abbrev pub unreadable_of : Outcome → ℕ
unreadable_of (Planned planned) = planned.unreadable
unreadable_of (NotPlanned id reason) = 0

abbrev pub unreadable_in : List Outcome → ℕ
unreadable_in outcomes = fold plus 0 (map unreadable_of outcomes)

abbrev pub fewer_of : Outcome → ℕ
fewer_of (Planned planned) = planned.fewer
fewer_of (NotPlanned id reason) = 0

abbrev pub fewer_in : List Outcome → ℕ
fewer_in outcomes = fold plus 0 (map fewer_of outcomes)

-- whether nothing is left, each entry of a ledger that is planned for can be read, no script is full, and each ledger was read
abbrev pub is_done : InventoryPlan → Bool
is_done plan =
    (count_by (counts counted.Left) plan.outcomes.items == 0) && ((unreadable_in plan.outcomes.items == 0)
    && ((count_by (counts counted.Full) plan.outcomes.items == 0) && (plan.unread == 0)))
