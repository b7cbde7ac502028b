-- What is printed for faults.
use Rattle.std.specs.Prelude.{ℕ, List, [], ◌++◌, codes}
use Rattle.std.specs.Fmt.{decimal}
use Rattle.reh_census_file.specs.declared.faults.CensusFault.{CensusFault}
use Rattle.reh_census_file.specs.declared.faults.CensusFault.TheVariants as fault
use Rattle.reh_census_file.specs.declared.faults.Expected.{Expected}
use Rattle.reh_census_file.specs.declared.faults.Expected.TheVariants as expected
use Rattle.reh_census_file.specs.declared.faults.Part.{Part}
use Rattle.reh_census_file.specs.declared.faults.Part.TheVariants as part
use Rattle.reh_census_file.specs.declared.faults.Keyword.{Keyword}
use Rattle.reh_census_file.specs.declared.faults.Keyword.TheVariants as word

abbrev pub word_text : Keyword → List ℕ
word_text word.Census = codes "census"
word_text word.Strict = codes "strict"
word_text word.Taken = codes "taken"
word_text word.ReadOnly = codes "read-only"
word_text word.Empty = codes "empty"
word_text word.Assumed = codes "assumed"
word_text word.Unread = codes "unread"
word_text word.Missing = codes "missing"
word_text word.Write = codes "write"
word_text word.Ack = codes "ack"
word_text word.Known = codes "known"
word_text word.Untold = codes "untold"
word_text word.Size = codes "size"

-- the lines that may follow
abbrev pub part_text : Part → List ℕ
part_text part.Bookies = codes "a line `bookie` or `ledgers`"
part_text part.Entries = codes "a line `entries`, `tail`, `ensemble` or `end`"
part_text part.Tails = codes "a line `tail`, `ensemble` or `end`"
part_text part.Ensembles = codes "a line `ensemble` or `end`"

-- what was expected, but for a word, lines and numbers
abbrev pub fixed_text : Expected → List ℕ
fixed_text expected.Version = codes "version 1, since no other can be read"
fixed_text expected.YesOrNo = codes "`yes` or `no`"
fixed_text expected.UpOrDown = codes "`up` or `down`"
fixed_text expected.OpenOrInRecovery = codes "`open` or `in-recovery`"
fixed_text expected.Time = codes "`-`, or a time of 1 to 300 bytes from 0x21 to 0x7E"
fixed_text expected.Name = codes "a name of 1 to 300 bytes from 0x21 to 0x7E"
fixed_text expected.Number = codes "a number from 0 to 9223372036854775808 in decimal digits"
fixed_text expected.Count = codes "a number from 1 to 9223372036854775808 in decimal digits"
fixed_text expected.KnownBookie = codes "the name of a bookie that has a line"
fixed_text expected.BookieEnd = codes "`read-only`, `empty`, `rack` or the end of the line, in this order"
fixed_text expected.LineEnd = codes "the end of the line"
fixed_text expected.FewBookies = codes "no more than 4096 bookies"
fixed_text expected.LaterBookie = codes "a bookie whose name comes after the one before it"
fixed_text expected.FewNotJudged = codes "no more than 9223372036854775808 ledgers not judged"
fixed_text expected.Quorums = codes "1 <= ack quorum <= write quorum <= 64"
fixed_text expected.Sizes = codes "1 <= ack quorum <= write quorum <= ensemble size <= 64"
fixed_text expected.Copies = codes "bookies that are up and not empty, each once, in order, up to the write quorum"
fixed_text expected.Members = codes "1 to 64 bookies, each once, in order"
fixed_text expected.LaterEntries = codes "entries whose bookies and quorums come after those before"
fixed_text expected.LaterTail = codes "a tail whose sizes, state and bookies come after those before"
fixed_text expected.LaterEnsemble = codes "an ensemble whose bookies come after those before"
fixed_text expected.SmallerCounts = codes "counts of no more than 9223372036854775808 in all"
fixed_text expected.MoreLines = codes "a further line, since the text is cut"
fixed_text expected.NoMoreLines = codes "the end of the text"
fixed_text (expected.Keyword w) = []
fixed_text (expected.Line p) = []
fixed_text (expected.End lines) = []

abbrev pub expected_text : Expected → List ℕ
expected_text (expected.Keyword w) = codes "`" ++ (word_text w ++ codes "`")
expected_text (expected.Line p) = part_text p
expected_text (expected.End lines) = codes "`end " ++ (decimal lines ++ codes "`")
expected_text other = fixed_text other

-- the line, and what was expected there
abbrev pub fault_text : CensusFault → List ℕ
fault_text (fault.Line line what) = codes "line " ++ (decimal line ++ (codes ": expected " ++ expected_text what))
fault_text fault.NoMemory = codes "no memory"
