-- What can't be counted together: a ledger that comes twice, one that a census can't count, and more than it counts.
use Rattle.std.specs.Prelude.{◌≡◌, ◌≤◌, ◌+◌, ◌^◌, ℕ, Bool, true, List, Vec, ◌++◌, Some, length, map, nat_eq, slice_get, take}
use Rattle.std.specs.List.{Contains, IsDistinct, flat_map}
use Rattle.std.specs.Option.{IsSomeAnd}
use Rattle.std.specs.declared.alloc.Global.{Global}
use Rattle.reh_census.specs.declared.censuses.CountedEnsemble.{CountedEnsemble}
use Rattle.reh_census.specs.declared.censuses.CountedTail.{CountedTail}
use Rattle.reh_census.specs.declared.censuses.Judged.{Judged}
use Rattle.reh_census.specs.declared.classes.Counted.{Counted}
use Rattle.reh_census.specs.Counting.{Census as Counts, count_ensembles, count_entries, count_tails, ensembles_in, entries_in, judged_sum}
use Rattle.reh_census.specs.Counting.{not_judged, tails_in}
use Rattle.reh_census.specs.Ledgers.{IsLedger}
use Rattle.reh_model.specs.Cluster.{Ledger as PicturedLedger}
use Rattle.reh_picture.specs.declared.listings.Listed.{Listed}
use Rattle.reh_tally.specs.Few.{AreFew, AreFewCounts}
use Rattle.reh_inputs.specs.declared.gathered.GatherFault.{GatherFault}
use Rattle.reh_inputs.specs.declared.gathered.GatherFault.TheVariants as gather
use Rattle.reh_inputs.specs.declared.inputs.Input.{Input}
use Rattle.reh_inputs.specs.declared.inputs.Input.TheVariants.{Picture, Census}
use Rattle.reh_inputs.specs.declared.ledgers.Reading.{Reading}
use Rattle.reh_inputs.specs.Gathered.{assumed_of, holders_of, ids_in, ledger_in, ledgers_among, ledgers_of, reading_of}
use Rattle.reh_inputs.specs.Inputs.{of_picture}
use Rattle.reh_inputs.specs.Renumbered.{files_of, judged_by}
use Rattle.reh_inputs.specs.United.{number_of, united}

-- A ledger that comes twice

-- this id is the first that comes again, after these others: those before it are each once, and it is one of them
pub record ComesAgain (before ids : List ℕ) (id : ℕ) : Type 0 where
  pub place : ℕ
  pub is_there : slice_get ids place ≡ Some id
  pub each_once : IsDistinct nat_eq (before ++ take place ids)
  pub is_before : Contains (before ++ take place ids) id

-- of all ids in the order of the inputs, this one of this input is the first that comes again
abbrev pub IsTwice : List Input → ℕ → ℕ → Type 0
IsTwice inputs input ledger =
    IsSomeAnd (slice_get inputs input)
    (λ one. ComesAgain (flat_map (of_picture ids_in) (take input inputs)) (of_picture ids_in one) ledger)

-- the same of lists of ids, one for each input
abbrev pub IsTwiceAmong : List (Vec ℕ Global) → ℕ → ℕ → Type 0
IsTwiceAmong lists input ledger =
    IsSomeAnd (slice_get lists input)
    (λ ids. ComesAgain (flat_map (λ list. list.items) (take input lists)) ids.items ledger)

-- A ledger that a census can't count

-- a picture whose bookies have these numbers has such a ledger, of this id
pub record HasUnfit (numbers : List ℕ) (reading : Reading) (l : Listed) (id : ℕ) : Type 0 where
  pub ledger : PicturedLedger
  pub is_there : Contains l.listing.ledgers.items ledger
  pub id_is : ledger.id ≡ id
  pub unfit : IsLedger (ledger_in numbers reading l ledger) → ⊥

-- and an input, in a cluster whose bookies have these names
abbrev pub InputHasUnfit : List (List ℕ) → Reading → Input → ℕ → Type 0
InputHasUnfit names reading (Picture l) id = HasUnfit (map (number_of names) l.listing.names) reading l id
InputHasUnfit names reading (Census c) id = ⊥

-- and the input of this number, where the first of them has that one
abbrev pub IsUnfitAt : List (List ℕ) → Reading → ℕ → List Input → ℕ → ℕ → Type 0
IsUnfitAt names reading first inputs input id =
    (place : ℕ) × (input ≡ first + place) × IsSomeAnd (slice_get inputs place) (λ one. InputHasUnfit names reading one id)

-- More than a census counts

-- a census counts so many ledgers, entries that rest on an assumption, and ledgers that were not judged
pub record IsFewJudged (judged : Judged) : Type 0 where
  pub ledgers : judged.ledgers ≤ 2 ^ 63
  pub assumed : judged.assumed ≤ 2 ^ 63
  pub not_judged : not_judged judged ≤ 2 ^ 63

-- what was counted and judged is no more than a census counts, together with what files count
pub record AreFewWith (entries : List Counted) (tails : List CountedTail) (ensembles : List CountedEnsemble) (own : Judged) (files : Counts) : Type 0 where
  pub counts : AreFewCounts (entries ++ files.entries) (tails ++ files.tails) (ensembles ++ files.ensembles)
  pub judged : IsFewJudged (judged_sum own files.judged)

-- the ledgers of a run of inputs, in a cluster whose bookies have these names, are no more than a census counts, nor are
-- their entries that rest on an assumption
pub record AreFewIn (holders : List ℕ) (names : List (List ℕ)) (strict : Bool) (inputs : List Input) : Type 0 where
  pub counts : AreFew holders (ledgers_among names (reading_of strict) inputs)
  pub assumed : assumed_of strict holders names inputs ≤ 2 ^ 63

-- the inputs together show no more than a census counts: entries, ledgers that aren't closed, fragments, and what was judged
pub record AreFewTogether (inputs : List Input) (strict : Bool) : Type 0 where
  pub entries : count_entries (holders_of inputs) (ledgers_of (reading_of strict) inputs) (λ class. true)
      + entries_in (files_of (united inputs).names inputs).entries
      ≤ 2 ^ 63
  pub tails : count_tails (ledgers_of (reading_of strict) inputs) (λ tail. true)
      + tails_in (files_of (united inputs).names inputs).tails
      ≤ 2 ^ 63
  pub ensembles : count_ensembles (ledgers_of (reading_of strict) inputs) (λ members. true)
      + ensembles_in (files_of (united inputs).names inputs).ensembles
      ≤ 2 ^ 63
  pub judged : IsFewJudged
      (judged_sum
      (judged_by (length (ledgers_of (reading_of strict) inputs))
      (assumed_of strict (holders_of inputs) (united inputs).names inputs))
      (files_of (united inputs).names inputs).judged)

-- Faults

-- why the ids of this input's ledgers can't join others: one of them comes again, or there is no memory
abbrev pub IsIdFault : ℕ → List ℕ → List ℕ → GatherFault → Type 0
IsIdFault input before ids (gather.Twice number ledger) = (number ≡ input) × ComesAgain before ids ledger
IsIdFault input before ids gather.NoMemory = Unit {0}
IsIdFault input before ids other = ⊥

-- why lists of ids can't join: one of them is the first that comes again, or there is no memory
abbrev pub IsListFault : List (Vec ℕ Global) → GatherFault → Type 0
IsListFault lists (gather.Twice input ledger) = IsTwiceAmong lists input ledger
IsListFault lists gather.NoMemory = Unit {0}
IsListFault lists other = ⊥

-- why something can't be counted: it is not few, as is said; or it has a ledger that can't be counted, of this input and of
-- this id; or there is no memory
abbrev pub IsCountFault : Type 0 → (ℕ → ℕ → Type 0) → GatherFault → Type 0
IsCountFault few unfit gather.TooMany = few → ⊥
IsCountFault few unfit (gather.Unfit input ledger) = unfit input ledger
IsCountFault few unfit gather.NoMemory = Unit {0}
IsCountFault few unfit other = ⊥

-- the same of what can't be too much
abbrev pub IsUnfitFault : (ℕ → ℕ → Type 0) → GatherFault → Type 0
IsUnfitFault unfit fault = IsCountFault (Unit {0}) unfit fault

-- of what has no ledger that can't be counted
abbrev pub IsTooMuch : Type 0 → GatherFault → Type 0
IsTooMuch few fault = IsCountFault few (λ input id. ⊥) fault

-- and of a run of inputs, the first of which has this number
abbrev pub IsPartFault : List ℕ → List (List ℕ) → Bool → ℕ → List Input → GatherFault → Type 0
IsPartFault holders names strict first inputs fault =
    IsCountFault (AreFewIn holders names strict inputs) (IsUnfitAt names (reading_of strict) first inputs) fault
