-- The parts of a ledger, each of which is counted by itself. Of the last fragment of a ledger that isn't closed nobody knows
-- where it stops, and of it less may be told than of the others. So the others are counted as a closed ledger, and the last
-- one alone.
use Rattle.std.specs.Prelude.{Bool, ◌&&◌, ◌-◌, nat_lt, List, [], ◌∷◌, length, take, drop, if◌then◌else◌}
use Rattle.std.specs.List.{flat_map}
use Rattle.std.specs.Option.{is_none}
use Rattle.reh_inventory.specs.declared.ledgers.LedgerLine.{LedgerLine}
use Rattle.reh_inventory.specs.declared.ledgers.LedgerState.TheVariants.{Closed}
use Rattle.reh_inventory_census.specs.declared.parts.Other.{Other}
use Rattle.reh_inventory_census.specs.Counted.{end_of, last_first}

-- whether it is counted in two parts: it isn't closed, and has several fragments
abbrev pub has_parts : LedgerLine → Bool
has_parts g = is_none (end_of g.state) && nat_lt 1 (length g.fragments)

-- the fragments that stop, as a closed ledger
abbrev pub stopped_part : LedgerLine → LedgerLine
stopped_part g = record g { state = Closed (last_first g); fragments = take (length g.fragments - 1) g.fragments }

-- the last fragment alone
abbrev pub last_part : LedgerLine → LedgerLine
last_part g = record g { fragments = drop (length g.fragments - 1) g.fragments }

abbrev pub parts_of : LedgerLine → List LedgerLine
parts_of g = if has_parts g then stopped_part g ∷ last_part g ∷ [] else g ∷ []

-- the parts of ledgers
abbrev pub parts_in : List LedgerLine → List LedgerLine
parts_in lines = flat_map parts_of lines

-- the second part, made of the first
abbrev pub second : LedgerLine → Other → LedgerLine
second first other = record first { state = other.state; fragments = other.last ∷ [] }
