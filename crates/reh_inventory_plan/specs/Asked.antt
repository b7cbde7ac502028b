-- What is asked of an inventory's ledgers, and for which of them there is a plan.
use Rattle.std.specs.Prelude.{ℕ, Bool, false, not, ◌&&◌, ◌||◌, ◌==◌, List, length, bytes_eq, position}
use Rattle.std.specs.List.{list_any}
use Rattle.std.specs.Option.{is_some, option_map_or}
use Rattle.reh_cut.specs.Cuts.{bookie_in}
use Rattle.reh_inventory.specs.declared.heads.Head.{Head}
use Rattle.reh_inventory.specs.declared.ledgers.Fragment.{Fragment}
use Rattle.reh_inventory.specs.declared.ledgers.LedgerLine.{LedgerLine}

-- whether the name is one of these
abbrev pub is_among : List (List ℕ) → List ℕ → Bool
is_among names name = is_some (position (bytes_eq name) names)

-- whether it is one of these, or any will do where there are none
abbrev pub passes : List (List ℕ) → Bool → List ℕ → Bool
passes names any_if_none name = (any_if_none && (length names == 0)) || is_among names name

-- whether the bookie of that name stays registered without the lost ones: the first line shows it so, and it isn't lost
abbrev pub stays_up : Head → List (List ℕ) → List ℕ → Bool
stays_up head lost name = option_map_or (λ b. b.is_up) (bookie_in head name) false && not (is_among lost name)

-- whether some of these members doesn't
abbrev pub misses_one : Head → List (List ℕ) → List (List ℕ) → Bool
misses_one head lost members = list_any (λ name. not (stays_up head lost name)) members

-- whether some member of the ledger's ensembles doesn't
abbrev pub misses_member : Head → List (List ℕ) → LedgerLine → Bool
misses_member head lost line = list_any (λ (fragment : Fragment). misses_one head lost fragment.ensemble) line.fragments
