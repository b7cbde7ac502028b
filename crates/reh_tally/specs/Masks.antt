-- Some of a list's bookies, as the bits of a number.
use Rattle.std.specs.Prelude.{ℕ, ◌+◌, ◌*◌, ◌/◌, ◌%◌, ◌==◌, Bool, cond, List, [], ◌∷◌, map}
use Rattle.reh_census.specs.declared.ledgers.Fragment.{Fragment}
use Rattle.reh_census.specs.Ledgers.{Ledger, carries}
use Rattle.reh_census.specs.Striping.{range}

-- the number whose bits, from the lowest, say which elements of the list pass the test
abbrev pub mask_of : {X : Type 0} → (X → Bool) → List X → ℕ
mask_of test [] = 0
mask_of test (x ∷ xs) = mask_of test xs * 2 + cond (test x) 1 0

-- the bit of the one of these members that is this bookie, if one is
abbrev pub bit_of : List ℕ → ℕ → ℕ
bit_of members bookie = mask_of (λ member. bookie == member) members

-- of these bookies those whose bits are set
abbrev pub chosen : ℕ → List ℕ → List ℕ
chosen mask [] = []
chosen mask (b ∷ bookies) = cond (mask % 2 == 1) (b ∷ chosen (mask / 2) bookies) (chosen (mask / 2) bookies)

-- for each remainder of entries by the ensemble's size, onto which of these members they are striped
abbrev pub masks_of : List ℕ → Ledger → Fragment → List ℕ
masks_of members g fragment = map (λ remainder. mask_of (carries g fragment remainder) members) (range 0 g.size)
