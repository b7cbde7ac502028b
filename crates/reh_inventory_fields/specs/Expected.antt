-- What is printed of a fault's place, and of what was expected there.
use Rattle.std.specs.Prelude.{ℕ, List, ◌++◌, codes, if◌then◌else◌, Option, None, Some}
use Rattle.std.specs.Fmt.{decimal}
use Rattle.std.specs.Str.{bytes_eq}
use Rattle.reh_inventory_fields.specs.declared.fields.Field.{Field}
use Rattle.reh_inventory_fields.specs.declared.fields.Field.TheVariants as field
use Rattle.reh_inventory_fields.specs.declared.faults.Fault.{Fault}
use Rattle.reh_inventory_fields.specs.declared.faults.Fault.TheVariants.{NotJson, Missing, WrongKind, Limit, Twice}
use Rattle.reh_inventory_fields.specs.declared.faults.Fault.TheVariants.{EntriesOrLacks, NoMemory}
use Rattle.reh_inventory_fields.specs.declared.places.Place.{Place}
use Rattle.reh_inventory_fields.specs.declared.places.Place.TheVariants as place
use Rattle.reh_inventory_fields.specs.declared.places.LineFault.{LineFault}
use Rattle.reh_inventory_fields.specs.Fields.{field_name}

-- Paths

abbrev pub place_text : Place → List ℕ
place_text place.Line = codes "line"
place_text (place.Bookie b) = codes "bookies[" ++ (decimal b ++ codes "]")
place_text (place.Fragment f) = codes "fragments[" ++ (decimal f ++ codes "]")
place_text (place.Member f m) =
    codes "fragments[" ++ (decimal f ++ (codes "].ensemble[" ++ (decimal m ++ codes "]")))
place_text (place.Content c) = codes "contents[" ++ (decimal c ++ codes "]")
place_text (place.Range c list r) =
    codes "contents[" ++ (decimal c ++ (codes "]." ++ (field_name list ++ (codes "[" ++ (decimal r ++ codes "]")))))

-- the field that a fault of a part as a whole names
abbrev pub element_field : Place → Field
element_field place.Line = field.Line
element_field (place.Bookie b) = field.Bookie
element_field (place.Fragment f) = field.Fragment
element_field (place.Member f m) = field.Ensemble
element_field (place.Content c) = field.Content
element_field (place.Range c list r) = list

-- a field of a part
abbrev pub member_text : Place → Field → List ℕ
member_text place.Line member = field_name member
member_text here member = place_text here ++ (codes "." ++ field_name member)

-- a field of a part, or the part itself where the field is what the part is
abbrev pub path_text : Place → Field → List ℕ
path_text here member =
    if bytes_eq (field_name member) (field_name (element_field here)) then place_text here else member_text here member

-- the field that a fault at a place judged
abbrev pub faulty_field : Fault → Place → Field
faulty_field NotJson here = element_field here
faulty_field (Missing member) here = member
faulty_field (WrongKind member) here = member
faulty_field (Limit member) here = member
faulty_field (Twice member) here = member
faulty_field EntriesOrLacks here = element_field here
faulty_field NoMemory here = element_field here

-- What was expected

abbrev pub bookie_wanted : Place → List ℕ
bookie_wanted (place.Content c) = codes "a text of 1 to 300 bytes, each 0x21 to 0x7E"
bookie_wanted here = codes "an object"

abbrev pub ensemble_wanted : Place → List ℕ
ensemble_wanted (place.Member f m) = codes "a text of 1 to 300 bytes, each 0x21 to 0x7E"
ensemble_wanted here = codes "a list of as many names of bookies as ensembleSize says"

abbrev pub ranges_wanted : Place → List ℕ
ranges_wanted (place.Range c list r) =
    codes "[first, last] with first <= last <= 9223372036854775807, and first past the range before it"
ranges_wanted here = codes "a list of ranges of entries"

-- what a field must be
abbrev pub wanted_text : Field → Place → List ℕ
wanted_text field.Line here = codes "an object"
wanted_text field.Inventory here = codes "1"
wanted_text field.Taken here = codes "a text of 1 to 300 bytes, each 0x21 to 0x7E, other than -"
wanted_text field.Grace here = codes "a whole number from 0 to 1000000"
wanted_text field.LostDelayTicks here = codes "a whole number from 0 to 1000000"
wanted_text field.Held here = codes "striped"
wanted_text field.Bookies here = codes "a list of 1 to 4096 bookies"
wanted_text field.Bookie here = bookie_wanted here
wanted_text field.Name here = codes "a text of 1 to 300 bytes, each 0x21 to 0x7E"
wanted_text field.Up here = codes "true or false"
wanted_text field.ReadOnly here = codes "true or false"
wanted_text field.Empty here = codes "true or false"
wanted_text field.Rack here = codes "a text of 1 to 300 bytes, each 0x21 to 0x7E"
wanted_text field.Id here = codes "a whole number from 0 to 9223372036854775807"
wanted_text field.Unread here = codes "true or false"
wanted_text field.State here = codes "OPEN, IN_RECOVERY or CLOSED"
wanted_text field.LastEntryId here =
    codes "a whole number from -1 to 9223372036854775807, and at least the last firstEntry minus 1"
wanted_text field.EnsembleSize here = codes "a whole number from 1 to 64"
wanted_text field.WriteQuorumSize here = codes "a whole number from 1 to ensembleSize"
wanted_text field.AckQuorumSize here = codes "a whole number from 1 to writeQuorumSize"
wanted_text field.Version here = codes "a whole number from 0 to 9223372036854775807"
wanted_text field.Length here = codes "a whole number from 0 to 9223372036854775807"
wanted_text field.Fragments here = codes "a list of fragments, at least one"
wanted_text field.Fragment here = codes "an object"
wanted_text field.FirstEntry here =
    codes "0 in the first fragment, and a greater number in each after it, up to 9223372036854775807"
wanted_text field.Ensemble here = ensemble_wanted here
wanted_text field.Contents here = codes "a list of what at most 4096 bookies hold"
wanted_text field.Content here = codes "an object"
wanted_text field.Entries here = ranges_wanted here
wanted_text field.Lacks here = ranges_wanted here
wanted_text field.Told here = ranges_wanted here
wanted_text field.Assumed here = codes "true or false"
wanted_text field.End here = codes "true"
wanted_text field.Ledgers here = codes "a whole number from 0 to 9223372036854775807"

abbrev pub expected_text : Fault → Place → List ℕ
expected_text NotJson here = codes "one JSON value"
expected_text (Missing member) here = wanted_text member here
expected_text (WrongKind member) here = wanted_text member here
expected_text (Limit member) here = wanted_text member here
expected_text (Twice member) here = codes "a bookie that none before it names"
expected_text EntriesOrLacks here = codes "exactly one of entries and lacks"
expected_text NoMemory here = codes "more memory"

-- The text of a fault

abbrev pub spot_text : LineFault → Option ℕ → List ℕ
spot_text located None = path_text located.place (faulty_field located.fault located.place)
spot_text located (Some column) = codes "column " ++ decimal column

-- where it is, and what was expected there
abbrev pub fault_text : LineFault → List ℕ
fault_text located =
    spot_text located located.column ++ (codes ": expected " ++ expected_text located.fault located.place)
