-- How much of a ledger speaks against a stop.
use Rattle.std.specs.Prelude.{ℕ, Bool, true, false, List, [], ◌∷◌, None, if◌then◌else◌}
use Rattle.reh_census.specs.declared.answers.Answer.{Answer}
use Rattle.reh_census.specs.declared.answers.Answer.TheVariants.{Yes, No, Unknown, UnknownDisks, NotJudged}
use Rattle.reh_census.specs.declared.answers.Numbers.{Numbers}
use Rattle.reh_census.specs.declared.answers.Rule.{Rule}
use Rattle.reh_census.specs.declared.answers.Rule.TheVariants.{Readable, Kept, Recoverable, Writable, Replaceable}
use Rattle.reh_census.specs.declared.questions.Question.{Question}
use Rattle.reh_census.specs.Answers.{numbers_on}
use Rattle.reh_census.specs.Bookies.{Bookies, holders}
use Rattle.reh_census.specs.Counting.{counting_of}
use Rattle.reh_census.specs.Ledgers.{Ledger}

-- the number of the rule that is broken, or of the one that may be
abbrev pub broken_by : Rule → Numbers → ℕ
broken_by Readable numbers = numbers.readable.no
broken_by Kept numbers = numbers.kept.no
broken_by Recoverable numbers = numbers.recoverable
broken_by Writable numbers = numbers.writable
broken_by Replaceable numbers = numbers.replaceable

abbrev pub unknown_by : Rule → Numbers → ℕ
unknown_by Readable numbers = numbers.readable.unknown
unknown_by Kept numbers = numbers.kept.unknown
unknown_by Recoverable numbers = 0
unknown_by Writable numbers = 0
unknown_by Replaceable numbers = 0

-- the number that the answer names
abbrev pub weight_by : Answer → Numbers → ℕ
weight_by Yes numbers = 0
weight_by (No rule count) numbers = broken_by rule numbers
weight_by (Unknown rule count) numbers = unknown_by rule numbers
weight_by (UnknownDisks count) numbers = numbers.disks
weight_by (NotJudged count) numbers = 0

-- nothing asked of new ledgers
abbrev pub without_new : Question → Question
without_new question = record question { ensemble = None }

-- that number, of these ledgers alone
abbrev pub weight_of : Bookies → Question → (ℕ → Bool) → Answer → List Ledger → ℕ
weight_of bookies question stopped answer ledgers =
    weight_by answer (numbers_on (counting_of (holders bookies) ledgers) bookies (without_new question) 0 stopped)

-- of one ledger
abbrev pub weight : Bookies → Question → (ℕ → Bool) → Answer → Ledger → ℕ
weight bookies question stopped answer g = weight_of bookies question stopped answer (g ∷ [])

-- whether the rule counts entries
abbrev pub counts_entries : Rule → Bool
counts_entries Readable = true
counts_entries Kept = true
counts_entries Recoverable = false
counts_entries Writable = false
counts_entries Replaceable = false

-- how many entries of so much that speaks against the stop
abbrev pub entries_by : Answer → ℕ → ℕ
entries_by Yes weight = 0
entries_by (No rule count) weight = if counts_entries rule then weight else 0
entries_by (Unknown rule count) weight = if counts_entries rule then weight else 0
entries_by (UnknownDisks count) weight = weight
entries_by (NotJudged count) weight = 0
