-- The ledgers of a cluster name its bookies, all of which fit a set of bookies.
use Rattle.std.proofs.Common.{◌≡◌, ℕ, Some, arith}
use Rattle.reh_model.specs.Cluster.{Cluster, Ledger, ledger_at}
use Rattle.reh_model.specs.WellFormed.{IsWellFormed}
use Rattle.reh_model.proofs.WellFormedLaws.{IsLedger-found}
use Rattle.reh_audit.specs.Members.{HasBookies}

-- the ledger that is found
pub HasBookies-found : (s : Cluster) (l : ℕ) (g : Ledger) → IsWellFormed s → ledger_at s l ≡ Some g → HasBookies g
HasBookies-found s l g is found = λ f fragment f_in k b k_in.
    let few = is.names.few in
    let named = (IsLedger-found s l g is found).members f fragment f_in k b k_in in
    omega arith
