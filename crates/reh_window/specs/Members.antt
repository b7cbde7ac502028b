-- The members to which an entry of a ledger is written.
use Rattle.std.specs.Prelude.{ℕ, Bool, true, ◌&&◌, nat_lt, List, [], ◌∷◌, if◌then◌else◌}
use Rattle.reh_inventory.specs.declared.ledgers.Fragment.{Fragment}

-- whether the first of these fragments, if there is one, begins after the entry
abbrev pub begin_after : ℕ → List Fragment → Bool
begin_after entry [] = true
begin_after entry (fragment ∷ rest) = nat_lt entry fragment.first

-- whether each fragment begins after the one before it
abbrev pub are_rising : List Fragment → Bool
are_rising [] = true
are_rising (fragment ∷ rest) = begin_after fragment.first rest && are_rising rest

-- the ensemble of the fragment that has the entry: of the first one after which the next begins after the entry
abbrev pub ensemble_at : ℕ → List Fragment → List (List ℕ)
ensemble_at entry [] = []
ensemble_at entry (fragment ∷ rest) =
    if begin_after entry rest then fragment.ensemble else ensemble_at entry rest
