-- What is said of the names is said of the words that give them; and a fault that a call answers is handed on.
use Rattle.std.proofs.Common.{◌≡◌, sym, subst, true, Bool, Result, Ok, Err, IfErr, IfOk, List, String, Global, map, string_bytes}
use Rattle.std.specs.Prelude.{IsErrAnd, OnOk}
use Rattle.reh_inputs.specs.Cluster.{Cluster, rack_name}
use Rattle.reh_inputs.specs.declared.together.Gathered.{Gathered}
use Rattle.reh_waves.specs.Json.{ArePrintable}
use Rattle.reh_stop.specs.Named.{AreClear}
use Rattle.reh_stop.specs.Rounds.{AreUnsaid, IsUnprintable, IsUnsaidCost}
use Rattle.reh_stop.specs.declared.verdicts.Verdict.{Verdict}
use Rattle.reh_stop.specs.Stops.{AreNamed, AreOfLedgers, IsByNames, IsFaultOf, IsJudged, IsRefused, IsUnsaid, facts_of, has_words, stopped_by}
use Rattle.reh_stop.specs.declared.rounds.AskedRisk.{AskedRisk}
use Rattle.reh_stop.specs.declared.rounds.AskedWaves.{AskedWaves}
use Rattle.reh_stop.specs.declared.rounds.RoundFault.{RoundFault}
use Rattle.reh_stop.specs.declared.rounds.RoundFault.TheVariants as round
use Rattle.reh_stop.specs.declared.stops.Asked.{Asked}
use Rattle.reh_stop.specs.declared.stops.StopFault.{StopFault}
use Rattle.reh_stop.specs.declared.stops.StopFault.TheVariants.{Nobody, Ambiguous, UnknownBookie, Twice, UnknownRack, NoMemory}

-- the fault of a call is that of the whole
pub if_err : {T E : Type 0} (P : E → Type 0) (result : Result T E) (fault : E) → IsErrAnd result (λ x. x ≡ fault) → P fault
    → IfErr result P
if_err P (Ok x) fault is holds = absurd is
if_err P (Err x) fault is holds = subst P (sym is) holds

-- Stops

module _ (g : Gathered) (asked named : Asked) (some : has_words asked ≡ true) (clear : AreClear g.cluster.names asked.bookies.now)
    (by : IsByNames g.cluster asked named) where
  refused : (fault : StopFault) → IsUnsaid g.cluster named fault → IsRefused g asked fault
  refused Nobody never = absurd never
  refused (Ambiguous word) never = absurd never
  refused (UnknownBookie name) is = (some, clear, named, by, is)
  refused (Twice name) is = (some, clear, named, by, is)
  refused (UnknownRack name) is = (some, clear, named, by, is)
  refused NoMemory is = tt

  pub refused-by : {T : Type 0} (result : Result T StopFault) → IfErr result (IsUnsaid g.cluster named)
      → IfErr result (IsRefused g asked)
  refused-by (Ok said) is = tt
  refused-by (Err fault) is = refused fault is

  pub judged-by : (result : Result Verdict StopFault) → OnOk result (AreNamed g.cluster named)
      → IfOk result (λ verdict. verdict.stopped ≡ stopped_by g.cluster named)
      → IfOk result (λ verdict. verdict.facts ≡ facts_of g named verdict.stopped)
      → IfOk result (λ verdict. AreOfLedgers g named verdict.facts)
      → IfOk result (λ verdict. IsJudged g asked verdict)
  judged-by (Ok verdict) are stopped facts ledgers = record {
    some = some;
    clear = clear;
    named = named;
    by_names = by;
    are_named = are;
    stopped = stopped;
    facts = facts;
    ledgers = ledgers;
  }
  judged-by (Err fault) are stopped facts ledgers = tt

-- what is wrong with names
pub misnamed : (cluster : Cluster) (named : Asked) (fault : StopFault) → IsFaultOf cluster named fault
    → IsUnsaid cluster named fault
misnamed cluster named Nobody never = absurd never
misnamed cluster named (Ambiguous word) never = absurd never
misnamed cluster named (UnknownBookie name) is = is
misnamed cluster named (Twice name) is = is
misnamed cluster named (UnknownRack name) is = is
misnamed cluster named NoMemory never = tt

-- Rounds and costs

-- if these names can't be printed, all names together can't
pub unprintable : (as_json : Bool) (P Q : Type 0) → as_json ≡ true → (Q → P) → (fault : RoundFault) → IsUnprintable true P fault
    → IsUnprintable as_json Q fault
unprintable as_json P Q json among round.Unprintable is = (json, λ q. is.1 (among q))
unprintable as_json P Q json among round.NoMemory is = tt

pub unsaid : (g : Gathered) (asked : AskedWaves) (names : List (String Global)) → map string_bytes names ≡ g.cluster.names
    → (fault : RoundFault) → IsUnprintable asked.as_json (ArePrintable names) fault → AreUnsaid g asked fault
unsaid g asked names are round.Unprintable is = (is.0, names, are, is.1)
unsaid g asked names are round.NoMemory is = tt

pub unsaid-cost : (g : Gathered) (asked : AskedRisk) (names racks : List (String Global)) → map string_bytes names ≡ g.cluster.names
    → map string_bytes racks ≡ map rack_name g.cluster.shown
    → (fault : RoundFault) → IsUnprintable asked.as_json (ArePrintable names × ArePrintable racks) fault
    → IsUnsaidCost g asked fault
unsaid-cost g asked names racks are have round.Unprintable is = (is.0, names, racks, are, have, is.1)
unsaid-cost g asked names racks are have round.NoMemory is = tt
