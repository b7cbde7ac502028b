-- The bookies of an inventory that take part in the plan for one of its ledgers.
use Rattle.std.specs.Prelude.{◌≡◌, All, Contains, List, ◌++◌}
use Rattle.std.specs.List.{filter}
use Rattle.reh_cut.specs.Cuts.{names_bookie}
use Rattle.reh_inventory.specs.declared.heads.Bookie.{Bookie}
use Rattle.reh_inventory.specs.declared.heads.Head.{Head}
use Rattle.reh_inventory.specs.declared.ledgers.LedgerLine.{LedgerLine}

-- those of these bookies that the ledger's line names
abbrev pub named_in : LedgerLine → List Bookie → List Bookie
named_in line bookies = filter (λ (bookie : Bookie). names_bookie line bookie.name) bookies

-- the first line with those of its bookies alone that the ledger's line names, and then others of it, each as it was
pub record IsPart (head : Head) (line : LedgerLine) (part : Head) : Type 0 where
  pub grace : part.grace ≡ head.grace
  pub delay : part.delay ≡ head.delay
  pub striped : part.assumes_striped ≡ head.assumes_striped
  pub others : List Bookie
  pub bookies : part.bookies ≡ named_in line head.bookies ++ others
  pub among : All (Contains head.bookies) others
