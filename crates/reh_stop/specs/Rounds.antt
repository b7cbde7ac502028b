-- What is said of rounds, and of what the next losses cost.
use Rattle.std.specs.Prelude.{◌≡◌, ℕ, Bool, true, if◌then◌else◌, cond, filter, List, map, String, string_bytes}
use Rattle.std.specs.declared.alloc.Global.{Global}
use Rattle.reh_census.specs.Answers.{answer_on}
use Rattle.reh_census.specs.Bookies.{bookies_of, holders}
use Rattle.reh_census.specs.Counting.{counting_in, counting_of, not_judged}
use Rattle.reh_census.specs.Ledgers.{Ledger}
use Rattle.reh_inputs.specs.Cluster.{Cluster, is_first_in_rack, rack_name}
use Rattle.reh_inputs.specs.declared.together.Gathered.{Gathered}
use Rattle.reh_waves.specs.Json.{ArePrintable, risk_json, waves_json}
use Rattle.reh_waves.specs.Orders.{IsNameOrder}
use Rattle.reh_waves.specs.Risk.{IsRisk}
use Rattle.reh_waves.specs.Texts.{risk_text, waves_text}
use Rattle.reh_waves.specs.Waves.{ArePlaced, AreWaves, NoTwo, answer_in, places}
use Rattle.reh_waves.specs.declared.risk.Risk.{Risk}
use Rattle.reh_waves.specs.declared.waves.Waves.{Waves}
use Rattle.reh_stop.specs.Together.{AreLedgersOf}
use Rattle.reh_stop.specs.declared.rounds.AskedRisk.{AskedRisk}
use Rattle.reh_stop.specs.declared.rounds.AskedWaves.{AskedWaves}
use Rattle.reh_stop.specs.declared.rounds.RoundFault.{RoundFault}
use Rattle.reh_stop.specs.declared.rounds.RoundFault.TheVariants as fault

-- Waves

abbrev pub waves_by : Bool → List (String Global) → Waves → List ℕ
waves_by as_json names waves = if as_json then waves_json names waves else waves_text names waves

-- the order of the bookies' names
pub record IsBookieOrder (g : Gathered) (order : List ℕ) : Type 0 where
  pub names : List (String Global)
  pub are_names : map string_bytes names ≡ g.cluster.names
  pub in_order : IsNameOrder names order

-- rounds by what inputs show together: no two can be stopped together, each registered bookie is in one or named alone, and
-- in the order of their names each is in the first that stays a yes with it; and they are rounds by the ledgers of all inputs
pub record AreRounds (g : Gathered) (asked : AskedWaves) (waves : Waves) : Type 0 where
  pub census : AreWaves (answer_in g.census (bookies_of g.bookies) asked.question) (bookies_of g.bookies) asked.by_rack waves
  pub no_two : NoTwo (answer_in g.census (bookies_of g.bookies) asked.question) asked.by_rack waves.rounds.items
  pub once : (b : ℕ) → places waves b ≡ cond ((bookies_of g.bookies).is_registered b) 1 0
  pub order : List ℕ
  pub is_order : IsBookieOrder g order
  pub placed : ArePlaced (answer_in g.census (bookies_of g.bookies) asked.question) (bookies_of g.bookies) asked.by_rack order waves
  pub ledgers : (ledgers : List Ledger) → AreLedgersOf g ledgers
      → AreWaves (answer_on (counting_of (holders (bookies_of g.bookies)) ledgers) (bookies_of g.bookies) asked.question
      (not_judged g.census.judged)) (bookies_of g.bookies) asked.by_rack waves

-- why no text is made: JSON is asked for, and not all names can be printed. Of `NoMemory` nothing is claimed
abbrev pub IsUnprintable : Bool → Type 0 → RoundFault → Type 0
IsUnprintable as_json are_printable fault.Unprintable = (as_json ≡ true) × (are_printable → ⊥)
IsUnprintable as_json are_printable fault.NoMemory = Unit {0}

-- why no rounds are said: JSON is asked for, and a bookie's name has a byte that can't be printed
abbrev pub AreUnsaid : Gathered → AskedWaves → RoundFault → Type 0
AreUnsaid g asked fault.Unprintable =
    (asked.as_json ≡ true) × (names : List (String Global)) × (map string_bytes names ≡ g.cluster.names)
    × (ArePrintable names → ⊥)
AreUnsaid g asked fault.NoMemory = Unit {0}

-- the text says rounds, by the names of the bookies; in JSON each byte of these can be printed
pub record SaysRounds (g : Gathered) (asked : AskedWaves) (text : String Global) : Type 0 where
  pub names : List (String Global)
  pub are_names : map string_bytes names ≡ g.cluster.names
  pub waves : Waves
  pub are_rounds : AreRounds g asked waves
  pub says : string_bytes text ≡ waves_by asked.as_json names waves
  pub printable : asked.as_json ≡ true → ArePrintable names

-- Risk

abbrev pub risk_by : Bool → List (String Global) → List (String Global) → Risk → List ℕ
risk_by as_json names racks risk = if as_json then risk_json names racks risk else risk_text names racks risk

-- the racks in the order of their names, each by the number of the first bookie in it; these are the names of the bookies' racks
pub record AreRacks (cluster : Cluster) (names : List (String Global)) (racks : List ℕ) : Type 0 where
  pub order : List ℕ
  pub in_order : IsNameOrder names order
  pub first : racks ≡ filter (is_first_in_rack cluster.shown) order

-- what the next losses cost by what inputs show together, and by the ledgers of all inputs
pub record IsCost (g : Gathered) (asked : AskedRisk) (order racks : List ℕ) (risk : Risk) : Type 0 where
  pub census : IsRisk (counting_in g.census) (bookies_of g.bookies) asked.question (not_judged g.census.judged) order racks
      asked.with_pairs risk
  pub ledgers : (ledgers : List Ledger) → AreLedgersOf g ledgers
      → IsRisk (counting_of (holders (bookies_of g.bookies)) ledgers) (bookies_of g.bookies) asked.question
      (not_judged g.census.judged) order racks asked.with_pairs risk

-- why no cost is said: JSON is asked for, and the name of a bookie or of a rack has a byte that can't be printed
abbrev pub IsUnsaidCost : Gathered → AskedRisk → RoundFault → Type 0
IsUnsaidCost g asked fault.Unprintable =
    (asked.as_json ≡ true) × (names : List (String Global)) × (racks : List (String Global))
    × (map string_bytes names ≡ g.cluster.names) × (map string_bytes racks ≡ map rack_name g.cluster.shown)
    × (ArePrintable names × ArePrintable racks → ⊥)
IsUnsaidCost g asked fault.NoMemory = Unit {0}

-- the text says the cost, by the names of bookies and racks, and in the order of these names; in JSON each byte of them can
-- be printed
pub record SaysCost (g : Gathered) (asked : AskedRisk) (text : String Global) : Type 0 where
  pub names : List (String Global)
  pub are_names : map string_bytes names ≡ g.cluster.names
  pub racks : List (String Global)
  pub are_racks : map string_bytes racks ≡ map rack_name g.cluster.shown
  pub order : List ℕ
  pub in_order : IsNameOrder names order
  pub rack_numbers : List ℕ
  pub are_rack_numbers : AreRacks g.cluster racks rack_numbers
  pub risk : Risk
  pub is_cost : IsCost g asked order rack_numbers risk
  pub says : string_bytes text ≡ risk_by asked.as_json names racks risk
  pub printable : asked.as_json ≡ true → ArePrintable names × ArePrintable racks
