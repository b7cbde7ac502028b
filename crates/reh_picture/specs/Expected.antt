-- What is printed of a fault's place, and of what was expected there.
use Rattle.std.specs.Prelude.{ℕ, List, ◌++◌, codes, if◌then◌else◌, Option, None, Some}
use Rattle.std.specs.Fmt.{decimal}
use Rattle.std.specs.Str.{bytes_eq}
use Rattle.reh_fields.specs.declared.fields.Field.{Field}
use Rattle.reh_fields.specs.declared.fields.Field.TheVariants as field
use Rattle.reh_fields.specs.declared.faults.LedgerFlaw.{LedgerFlaw}
use Rattle.reh_fields.specs.declared.faults.LedgerFlaw.TheVariants as flaw
use Rattle.reh_fields.specs.declared.faults.Repeated.{Repeated}
use Rattle.reh_fields.specs.declared.faults.Repeated.TheVariants as repeated
use Rattle.reh_fields.specs.declared.faults.PictureFault.{PictureFault}
use Rattle.reh_fields.specs.declared.faults.PictureFault.TheVariants.{TooLong, NotJson, Missing, WrongKind, BadName}
use Rattle.reh_fields.specs.declared.faults.PictureFault.TheVariants.{Twice, UnknownBookie, Limit, BadLedger, NoMemory}
use Rattle.reh_picture.specs.declared.places.Place.{Place}
use Rattle.reh_picture.specs.declared.places.Place.TheVariants as place
use Rattle.reh_picture.specs.declared.places.TextPlace.{TextPlace}
use Rattle.reh_picture.specs.declared.places.LocatedFault.{LocatedFault}
use Rattle.reh_fields.specs.Fields.{field_name}
use Rattle.reh_fields.specs.Faults.{fault_text}

-- Paths

abbrev pub place_text : Place → List ℕ
place_text place.Picture = codes "picture"
place_text (place.Bookie b) = codes "bookies[" ++ (decimal b ++ codes "]")
place_text (place.Ledger l) = codes "ledgers[" ++ (decimal l ++ codes "]")
place_text (place.Fragment l f) =
    codes "ledgers[" ++ (decimal l ++ (codes "].fragments[" ++ (decimal f ++ codes "]")))
place_text (place.Member l f m) =
    codes "ledgers["
    ++ (decimal l ++ (codes "].fragments[" ++ (decimal f ++ (codes "].ensemble[" ++ (decimal m ++ codes "]")))))
place_text (place.Content c) = codes "contents[" ++ (decimal c ++ codes "]")
place_text (place.Range c r) = codes "contents[" ++ (decimal c ++ (codes "].entries[" ++ (decimal r ++ codes "]")))

-- the field that a fault of a part as a whole names
abbrev pub element_field : Place → Field
element_field place.Picture = field.Picture
element_field (place.Bookie b) = field.Bookie
element_field (place.Ledger l) = field.Ledger
element_field (place.Fragment l f) = field.Fragment
element_field (place.Member l f m) = field.Ensemble
element_field (place.Content c) = field.Content
element_field (place.Range c r) = field.Entries

-- a field of a part
abbrev pub member_text : Place → Field → List ℕ
member_text place.Picture member = field_name member
member_text here member = place_text here ++ (codes "." ++ field_name member)

-- a field of a part, or the part itself where the field is what the part is
abbrev pub path_text : Place → Field → List ℕ
path_text here member =
    if bytes_eq (field_name member) (field_name (element_field here)) then place_text here else member_text here member

-- the field that a fault at a place judged
abbrev pub bookie_field : Place → Field
bookie_field (place.Member l f m) = field.Ensemble
bookie_field here = field.Bookie

abbrev pub repeated_field : Repeated → Place → Field
repeated_field (repeated.Bookie name) here = field.Name
repeated_field (repeated.Ledger ledger) here = field.Id
repeated_field (repeated.Content name ledger) here = element_field here

abbrev pub rule_field : LedgerFlaw → Field
rule_field flaw.Quorum = field.Ledger
rule_field flaw.Fragment = field.Fragments
rule_field flaw.Ensemble = field.Fragments
rule_field flaw.Last = field.LastEntryId
rule_field flaw.Unknown = field.Ledger

abbrev pub faulty_field : PictureFault → Place → Field
faulty_field TooLong here = element_field here
faulty_field NotJson here = element_field here
faulty_field (Missing member) here = member
faulty_field (WrongKind member) here = member
faulty_field BadName here = field.Name
faulty_field (Twice what) here = repeated_field what here
faulty_field (UnknownBookie name) here = bookie_field here
faulty_field (Limit member) here = member
faulty_field (BadLedger ledger rule) here = rule_field rule
faulty_field NoMemory here = element_field here

-- What was expected

abbrev pub bookie_wanted : Place → List ℕ
bookie_wanted (place.Content c) = codes "the name of a bookie of the picture"
bookie_wanted here = codes "an object"

abbrev pub ledger_wanted : Place → List ℕ
ledger_wanted (place.Content c) = codes "the id of a ledger of the picture"
ledger_wanted here = codes "an object"

abbrev pub ensemble_wanted : Place → List ℕ
ensemble_wanted (place.Member l f m) = codes "the name of a bookie of the picture"
ensemble_wanted here = codes "a list of names of bookies"

abbrev pub entries_wanted : Place → List ℕ
entries_wanted (place.Range c r) =
    codes "[first, last] with first <= last <= 65535, and first past the range before it"
entries_wanted here = codes "a list of ranges of entries"

-- what a field must be
abbrev pub wanted_text : Field → Place → List ℕ
wanted_text field.Picture here = codes "an object"
wanted_text field.Format here = codes "1 or 2"
wanted_text field.Grace here = codes "a whole number from 0 to 1000000"
wanted_text field.LostDelayTicks here = codes "a whole number from 0 to 1000000"
wanted_text field.Bookies here = codes "a list of 1 to 64 bookies"
wanted_text field.Bookie here = bookie_wanted here
wanted_text field.Name here = codes "a text of 1 to 300 bytes, each 0x21 to 0x7E"
wanted_text field.Up here = codes "true or false"
wanted_text field.ReadOnly here = codes "true or false"
wanted_text field.Empty here = codes "true or false"
wanted_text field.Rack here = codes "a text of 1 to 300 bytes, each 0x21 to 0x7E"
wanted_text field.Ledgers here = codes "a list of at most 512 ledgers"
wanted_text field.Ledger here = ledger_wanted here
wanted_text field.Id here = codes "a whole number from 0 to 1000000000000"
wanted_text field.State here = codes "OPEN, IN_RECOVERY or CLOSED"
wanted_text field.LastEntryId here = codes "a whole number from -1 to 65535"
wanted_text field.EnsembleSize here = codes "a whole number from 1 to 16"
wanted_text field.WriteQuorumSize here = codes "a whole number from 1 to 16"
wanted_text field.AckQuorumSize here = codes "a whole number from 1 to 16"
wanted_text field.Version here = codes "a whole number from 0 to 1000000000000"
wanted_text field.Fragments here = codes "a list of at most 256 fragments"
wanted_text field.Fragment here = codes "an object"
wanted_text field.FirstEntry here = codes "a whole number from 0 to 65535"
wanted_text field.Ensemble here = ensemble_wanted here
wanted_text field.Contents here = codes "a list of what bookies hold"
wanted_text field.Content here = codes "an object"
wanted_text field.Entries here = entries_wanted here
wanted_text field.Assumed here = codes "true or false"

-- the rule of a ledger
abbrev pub rule_text : LedgerFlaw → List ℕ
rule_text flaw.Quorum = codes "1 <= ackQuorumSize <= writeQuorumSize <= ensembleSize <= 16"
rule_text flaw.Fragment = codes "firstEntry 0 in the first, and a greater one in each after it"
rule_text flaw.Ensemble = codes "as many different bookies in each ensemble as ensembleSize says"
rule_text flaw.Last = codes "at least the firstEntry of the last fragment minus 1"
rule_text flaw.Unknown = codes "the id of a ledger of the picture"

abbrev pub unlike_text : Repeated → List ℕ
unlike_text (repeated.Bookie name) = codes "a name that no bookie before it has"
unlike_text (repeated.Ledger ledger) = codes "an id that no ledger before it has"
unlike_text (repeated.Content name ledger) = codes "another bookie or another ledger than in each content before it"

-- what a number, or a number of elements, must be; the number of words is the limit of all contents together
abbrev pub limit_text : Field → Place → List ℕ
limit_text field.Contents here =
    codes "entries that take at most 4194304 words of 64, counted for every bookie up to a ledger's greatest entry"
limit_text member here = wanted_text member here

abbrev pub expected_text : PictureFault → Place → List ℕ
expected_text TooLong here = codes "at most 8388608 bytes"
expected_text NotJson here = codes "JSON"
expected_text (Missing member) here = wanted_text member here
expected_text (WrongKind member) here = wanted_text member here
expected_text BadName here = wanted_text field.Name here
expected_text (Twice what) here = unlike_text what
expected_text (UnknownBookie name) here = codes "the name of a bookie of the picture"
expected_text (Limit member) here = limit_text member here
expected_text (BadLedger ledger rule) here = rule_text rule
expected_text NoMemory here = codes "more memory"

-- Both lines of a fault

abbrev pub text_place_text : TextPlace → List ℕ
text_place_text t = codes "line " ++ (decimal t.line ++ (codes ", column " ++ decimal t.column))

abbrev pub spot_text : LocatedFault → Option TextPlace → List ℕ
spot_text located None = path_text located.place (faulty_field located.fault located.place)
spot_text located (Some text) = text_place_text text

-- the fault, and in a line of its own where it is and what was expected there
abbrev pub located_text : LocatedFault → List ℕ
located_text located =
    fault_text located.fault
    ++ (codes "\nat "
    ++ (spot_text located located.text ++ (codes ": expected " ++ expected_text located.fault located.place)))
