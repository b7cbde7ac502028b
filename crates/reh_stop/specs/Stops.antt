-- What is said of a stop.
use Rattle.std.specs.Prelude.{◌≡◌, ◌<◌, ◌||◌, ◌==◌, ℕ, Bool, true, false, not, nat_lt, Option, None, Some, List, length, map, position, slice_get, if◌then◌else◌, string_bytes}
use Rattle.std.specs.List.{list_any}
use Rattle.reh_census.specs.Bookies.{bookies_of, holders, is_flagged}
use Rattle.reh_census.specs.Striping.{range}
use Rattle.reh_census.specs.Counting.{Counting, counting_in, counting_of}
use Rattle.reh_census.specs.Ledgers.{Ledger}
use Rattle.reh_against.specs.declared.stops.Stop.{Stop}
use Rattle.reh_against.specs.Worst.{SaysAgainst}
use Rattle.reh_answer.specs.declared.against.Against.{Against}
use Rattle.reh_answer.specs.declared.facts.Facts.{Facts}
use Rattle.reh_answer.specs.Facts.{facts_on, most_copies}
use Rattle.reh_answer.specs.Objects.{json_of}
use Rattle.reh_answer.specs.Texts.{status_number, text_of}
use Rattle.reh_inputs.specs.Cluster.{Cluster}
use Rattle.reh_inputs.specs.Shown.{is_in}
use Rattle.reh_stop.specs.Named.{AreClear, IsFirstAmbiguous, is_name, is_repeated, is_stopped, names_in, texts}
use Rattle.reh_stop.specs.Together.{AreLedgersOf}
use Rattle.reh_inputs.specs.declared.together.Gathered.{Gathered}
use Rattle.reh_stop.specs.declared.stops.Asked.{Asked}
use Rattle.reh_stop.specs.declared.stops.Said.{Said}
use Rattle.reh_stop.specs.declared.stops.StopFault.{StopFault}
use Rattle.reh_stop.specs.declared.stops.StopFault.TheVariants as fault
use Rattle.reh_stop.specs.declared.verdicts.Verdict.{Verdict}

-- the facts of a stop of the bookies whose flags are set, by what inputs show together
abbrev pub facts_of : Gathered → Asked → List Bool → Facts
facts_of g asked flags =
    facts_on (counting_in g.census) (most_copies g.census.entries) (bookies_of g.bookies) asked.question g.census.judged
    (is_flagged flags)

abbrev pub text_by : Asked → Facts → List (List ℕ) → List Against → Option (List ℕ) → List (List ℕ) → List ℕ
text_by asked facts names against taken further =
    if asked.as_json then json_of facts names against taken further
    else text_of facts asked.question names against taken further

-- the text and the status say the facts, which of these ledgers speak against the stop, when the oldest input was taken, if
-- each tells its time, and these further notes
pub record IsSaid (ids : List ℕ) (ledgers : List (List Ledger)) (taken : Option (List ℕ)) (further : List (List ℕ))
    (g : Gathered) (asked : Asked) (flags : List Bool) (said : Said) : Type 0 where
  pub against : List Against
  pub says : SaysAgainst g.cluster.names ids ledgers (bookies_of g.bookies) asked.question
      (is_flagged flags) (facts_of g asked flags).answer against
  pub text : string_bytes said.text ≡ text_by asked (facts_of g asked flags) g.cluster.names against taken further
  pub status : said.status ≡ status_number (facts_of g asked flags).answer

-- the bookies that are asked of, as flags
abbrev pub stopped_by : Cluster → Asked → List Bool
stopped_by cluster asked =
    map (is_stopped cluster asked.bookies.now asked.racks.now) (range 0 (length cluster.names))

-- the most known copies that an entry has
pub record AreMost (counting : Counting) (most : ℕ) : Type 0 where
  pub none_more : counting.entries (λ class. nat_lt most (length class.known)) ≡ 0
  pub some_has : 0 < most → 0 < counting.entries (λ class. length class.known == most)

-- these are the facts by the ledgers of all inputs
abbrev pub AreOfLedgers : Gathered → Asked → Facts → Type 0
AreOfLedgers g asked facts =
    (ledgers : List Ledger) → AreLedgersOf g ledgers
    → let counting : Counting = counting_of (holders (bookies_of g.bookies)) ledgers in
    (most : ℕ) × AreMost counting most
    × (facts
    ≡ facts_on counting most (bookies_of g.bookies) asked.question g.census.judged (is_flagged (stopped_by g.cluster asked)))

-- the first name that is no bookie's, and the first rack
abbrev pub first_unknown : Cluster → Asked → Option ℕ
first_unknown cluster asked = position (λ word. not (is_name cluster.names word.now)) asked.bookies.now

abbrev pub first_unknown_rack : Cluster → Asked → Option ℕ
first_unknown_rack cluster asked = position (λ word. not (list_any (is_in word.now) cluster.shown)) asked.racks.now

-- no bookie is named twice
abbrev pub AreOnce : Asked → Type 0
AreOnce asked = (word : ℕ) → word < length asked.bookies.now → is_repeated asked.bookies.now word ≡ false

-- each name is a bookie's, and none is named twice; each rack is some bookie's
pub record AreNamed (cluster : Cluster) (asked : Asked) : Type 0 where
  pub bookies : first_unknown cluster asked ≡ None
  pub once : AreOnce asked
  pub racks : first_unknown_rack cluster asked ≡ None

-- what is wrong with the names: the first name that is no bookie's; where each is a bookie's, the first that is named
-- before; and where none is named twice, the first rack that is no bookie's
abbrev pub IsFaultOf : Cluster → Asked → StopFault → Type 0
IsFaultOf cluster asked (fault.UnknownBookie name) =
    (word : ℕ) × (first_unknown cluster asked ≡ Some word) × (slice_get asked.bookies.now word ≡ Some name)
IsFaultOf cluster asked (fault.Twice name) =
    (word : ℕ) × (first_unknown cluster asked ≡ None) × (is_repeated asked.bookies.now word ≡ true)
    × ((number : ℕ) → number < word → is_repeated asked.bookies.now number ≡ false)
    × (slice_get asked.bookies.now word ≡ Some name)
IsFaultOf cluster asked (fault.UnknownRack name) =
    (word : ℕ) × (first_unknown cluster asked ≡ None) × AreOnce asked × (first_unknown_rack cluster asked ≡ Some word)
    × (slice_get asked.racks.now word ≡ Some name)
IsFaultOf cluster asked other = ⊥

-- why nothing is said of these names: what is wrong with them. Of `NoMemory` nothing is claimed
abbrev pub IsUnsaid : Cluster → Asked → StopFault → Type 0
IsUnsaid cluster named fault.NoMemory = Unit {0}
IsUnsaid cluster named other = IsFaultOf cluster named other

-- the same question, in which the words are the names that they give
pub record IsByNames (cluster : Cluster) (asked named : Asked) : Type 0 where
  pub bookies : texts named.bookies.now ≡ names_in cluster.names asked.bookies.now
  pub racks : named.racks.now ≡ asked.racks.now
  pub question : named.question ≡ asked.question
  pub as_json : named.as_json ≡ asked.as_json

-- some bookie or rack is named
abbrev pub has_words : Asked → Bool
has_words asked = nat_lt 0 (length asked.bookies.now) || nat_lt 0 (length asked.racks.now)

-- what is said of the bookies that the words name, of which each is clear and known, with this time and these further
-- notes; these ledgers, each in its parts, may speak against the stop
pub record IsAnsweredBy (ids : List ℕ) (among : List (List Ledger)) (taken : Option (List ℕ)) (further : List (List ℕ))
    (g : Gathered) (asked : Asked) (said : Said) : Type 0 where
  pub some : has_words asked ≡ true
  pub clear : AreClear g.cluster.names asked.bookies.now
  pub named : Asked
  pub by_names : IsByNames g.cluster asked named
  pub are_named : AreNamed g.cluster named
  pub says : IsSaid ids among taken further g named (stopped_by g.cluster named) said
  pub ledgers : AreOfLedgers g named (facts_of g named (stopped_by g.cluster named))

-- the facts of a stop of the bookies that the words name, of which each is clear and known
pub record IsJudged (g : Gathered) (asked : Asked) (verdict : Verdict) : Type 0 where
  pub some : has_words asked ≡ true
  pub clear : AreClear g.cluster.names asked.bookies.now
  pub named : Asked
  pub by_names : IsByNames g.cluster asked named
  pub are_named : AreNamed g.cluster named
  pub stopped : verdict.stopped ≡ stopped_by g.cluster named
  pub facts : verdict.facts ≡ facts_of g named verdict.stopped
  pub ledgers : AreOfLedgers g named verdict.facts

-- the stop that this verdict is about, of what inputs show together
pub record IsAbout (g : Gathered) (asked : Asked) (verdict : Verdict) (stop : Stop) : Type 0 where
  pub names : map string_bytes stop.names.now ≡ g.cluster.names
  pub bookies : stop.bookies.now ≡ g.bookies
  pub stopped : stop.stopped.now ≡ verdict.stopped
  pub question : stop.question.now ≡ asked.question
  pub answer : stop.answer.now ≡ verdict.facts.answer

-- why nothing is said: there is no word; or a word can be read in two ways, the first of these; or, where none can, what
-- is wrong with the names that the words give
abbrev pub IsRefused : Gathered → Asked → StopFault → Type 0
IsRefused g asked fault.Nobody = has_words asked ≡ false
IsRefused g asked (fault.Ambiguous word) =
    (has_words asked ≡ true) × IsFirstAmbiguous g.cluster.names asked.bookies.now word
IsRefused g asked fault.NoMemory = Unit {0}
IsRefused g asked other =
    (has_words asked ≡ true) × AreClear g.cluster.names asked.bookies.now × (named : Asked) × IsByNames g.cluster asked named
    × IsFaultOf g.cluster named other
