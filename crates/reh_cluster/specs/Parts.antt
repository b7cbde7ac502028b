-- What callers see of a state's parts, and which rows go with ledgers.
use Rattle.std.specs.Prelude.{◌≡◌, ℕ, List}
use Rattle.reh_model.specs.Cluster.{Parts, Ledger, words_among}
use Rattle.reh_held.specs.Values.{HeldValue, words_in}

-- the parts, and how many bookies have rows
pub record PartsValue : Type 0 where
  pub bookies : ℕ
  pub parts : Parts

-- there is a row for each bookie, and the rows of each ledger are exactly as long as it says
pub record HasRows (count : ℕ) (ledgers : List Ledger) (held : HeldValue) : Type 0 where
  pub bookies : held.bookies ≡ count
  pub words : (l : ℕ) → words_in held l ≡ words_among ledgers l
