-- Which bookies are asked for, and which ledgers' members can be in a set of bookies.
use Rattle.std.specs.Prelude.{ℕ, ◌<◌, Bool, not, All}
use Rattle.reh_types.specs.declared.limits.TheConstants.{MAX_BOOKIES}
use Rattle.reh_model.specs.Cluster.{Cluster, Ledger, is_up}
use Rattle.reh_model.specs.Audit.{is_long_lost}
use Rattle.reh_audit.specs.declared.members.Loss.{Loss}
use Rattle.reh_audit.specs.declared.members.Loss.TheVariants.{Any, Long}

-- whether the bookie is lost at all, or for so long that the delay is over
abbrev pub is_lost : Loss → Cluster → ℕ → Bool
is_lost Any s b = not (is_up s b)
is_lost Long s b = is_long_lost s b

-- each member of the ledger's ensembles is one of the bookies that there can be
abbrev pub HasBookies : Ledger → Type 0
HasBookies g = All (λ fragment. All (λ b. b < MAX_BOOKIES) fragment.ensemble) g.metadata.fragments
