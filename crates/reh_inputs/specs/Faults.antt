-- Why inputs can't be judged together.
use Rattle.std.specs.Prelude.{◌≡◌, ℕ, Bool, true, false, List, Option, Some, fold, length, slice_get, take}
use Rattle.std.specs.Option.{IsSomeAnd}
use Rattle.reh_census.specs.Striping.{range}
use Rattle.reh_picture.specs.Contents.{Holding}
use Rattle.reh_inputs.specs.declared.cluster.ClusterFault.{ClusterFault}
use Rattle.reh_inputs.specs.declared.cluster.ClusterFault.TheVariants as refusal
use Rattle.reh_inputs.specs.declared.empties.EmptyHolds.{EmptyHolds}
use Rattle.reh_inputs.specs.declared.gathered.GatherFault.{GatherFault}
use Rattle.reh_inputs.specs.declared.gathered.GatherFault.TheVariants as gather
use Rattle.reh_inputs.specs.declared.inputs.Input.{Input}
use Rattle.reh_inputs.specs.declared.inputs.Input.TheVariants.{Picture, Census}
use Rattle.reh_inputs.specs.declared.names.TheConstants.{MAX_CLUSTER_BOOKIES}
use Rattle.reh_inputs.specs.Cluster.{Cluster, has_bookie, is_shown_otherwise}
use Rattle.reh_inputs.specs.Empties.{holds_though_empty}
use Rattle.reh_inputs.specs.Gathered.{first_other, reading_of}
use Rattle.reh_inputs.specs.Shown.{Shown}
use Rattle.reh_inputs.specs.Uncounted.{AreFewTogether, InputHasUnfit, IsTwice}
use Rattle.reh_inputs.specs.United.{counted_at, shown_at, united, with_counted, with_listed}

-- why the bookie of this name, which is shown so, can't be one of the cluster
abbrev pub IsClusterFault : Cluster → List ℕ → Shown → ClusterFault → Type 0
IsClusterFault cluster name shown refusal.Differs = is_shown_otherwise cluster name shown ≡ true
IsClusterFault cluster name shown refusal.TooMany =
    (length cluster.names ≡ MAX_CLUSTER_BOOKIES) × (has_bookie cluster name ≡ false)
IsClusterFault cluster name shown refusal.NoMemory = Unit {0}

-- the name of an input's bookie of that number, and how the input shows it
abbrev pub name_at : Input → ℕ → Option (List ℕ)
name_at (Picture l) number = slice_get l.listing.names number
name_at (Census c) number = slice_get c.names number

abbrev pub shown_in : Input → ℕ → Shown
shown_in (Picture l) number = shown_at l number
shown_in (Census c) number = counted_at c number

-- the cluster with so many of an input's bookies
abbrev pub with_first : Cluster → Input → ℕ → Cluster
with_first cluster (Picture l) count = fold (with_listed l) cluster (range 0 count)
with_first cluster (Census c) count = fold (with_counted c) cluster (range 0 count)

-- why an input's bookie of that number can't be one of the cluster
abbrev pub IsUniteFault : Cluster → Input → ℕ → ClusterFault → Type 0
IsUniteFault cluster one number fault =
    IsSomeAnd (name_at one number) (λ name. IsClusterFault (with_first cluster one number) name (shown_in one number) fault)

-- an empty bookie of an input is said to hold entries of this ledger
abbrev pub IsHeldBy : Input → EmptyHolds → Type 0
IsHeldBy (Picture l) held =
    (k : ℕ) × IsSomeAnd (slice_get l.listing.holdings.items k)
    (λ (h : Holding). (holds_though_empty l h ≡ true) × (h.bookie ≡ held.bookie) × (h.ledger ≡ held.ledger))
IsHeldBy (Census c) held = ⊥

-- what a fault says is so: of strictness, of bookies and of empty ones, of a ledger that comes twice or can't be counted, and
-- of too much that would be counted
abbrev pub IsGatherFault : List Input → Bool → GatherFault → Type 0
IsGatherFault inputs strict (gather.Differs input bookie) =
    IsSomeAnd (slice_get inputs input) (λ one. IsUniteFault (united (take input inputs)) one bookie refusal.Differs)
IsGatherFault inputs strict (gather.TooManyBookies input bookie) =
    IsSomeAnd (slice_get inputs input) (λ one. IsUniteFault (united (take input inputs)) one bookie refusal.TooMany)
IsGatherFault inputs strict (gather.HoldsThoughEmpty input held) = IsSomeAnd (slice_get inputs input) (λ one. IsHeldBy one held)
IsGatherFault inputs strict (gather.Twice input ledger) = IsTwice inputs input ledger
IsGatherFault inputs strict (gather.Unfit input ledger) =
    IsSomeAnd (slice_get inputs input) (λ one. InputHasUnfit (united inputs).names (reading_of strict) one ledger)
IsGatherFault inputs strict (gather.OtherStrict input) = first_other strict inputs ≡ Some input
IsGatherFault inputs strict gather.TooMany = AreFewTogether inputs strict → ⊥
IsGatherFault inputs strict gather.NoMemory = Unit {0}
