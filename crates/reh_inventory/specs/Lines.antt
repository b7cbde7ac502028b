-- What a line of an inventory says, or its first fault. Beside what each field must be it is settled here:
-- * an object with a member `inventory` is a first line, one of the others with a member `end` is a last line, and all
--   others are lines of ledgers;
-- * `end` is `true`;
-- * of a ledger with `"unread":true` only the id is looked at.
use Rattle.std.specs.Prelude.{ℕ, Bool, List, [], ◌∷◌, if◌then◌else◌, Option, None, Some, Result, Ok, Err}
use Rattle.std.specs.Option.{ok_or}
use Rattle.std.specs.Result.{result_err}
use Rattle.std.specs.Str.{is_utf8}
use Rattle.serde_json.specs.Data.{Data}
use Rattle.serde_json.specs.Read.{read}
use Rattle.reh_model.specs.Checks.{first_reason, reason_unless}
use Rattle.reh_fields.specs.Members.{is_object}
use Rattle.reh_inventory_fields.specs.declared.fields.Field.TheVariants as field
use Rattle.reh_inventory_fields.specs.declared.faults.Fault.{Fault}
use Rattle.reh_inventory_fields.specs.declared.faults.Fault.TheVariants.{NotJson, WrongKind, Limit}
use Rattle.reh_inventory.specs.declared.lines.Line.{Line}
use Rattle.reh_inventory.specs.declared.lines.Line.TheVariants.{Head, Ledger, Unread, End}
use Rattle.reh_inventory_fields.specs.declared.members.TheConstants.{MAX_NUMBER}
use Rattle.reh_inventory_fields.specs.declared.places.Place.{Place}
use Rattle.reh_inventory_fields.specs.declared.places.Place.TheVariants as place
use Rattle.reh_inventory_fields.specs.Faults.{fault_at}
use Rattle.reh_inventory_fields.specs.Members.{has, flag_in, flag_if_there, flag_of, mark_of, number_of, number_fault}
use Rattle.reh_inventory.specs.Heads.{head_fault, head_in}
use Rattle.reh_inventory.specs.Ledgers.{id_fault, ledger_fault, ledger_in}

-- what is wrong with a last line
abbrev pub end_fault : Data → Option Fault
end_fault d =
    first_reason (
    result_err (flag_in d field.End)
    ∷ reason_unless (flag_of d field.End) (Limit field.End)
    ∷ number_fault d field.Ledgers 0 MAX_NUMBER
    ∷ [])

-- whether the ledger could not be read
abbrev pub mark_fault : Data → Option Fault
mark_fault d = result_err (flag_if_there d field.Unread)

abbrev pub is_unread : Data → Bool
is_unread d = mark_of d field.Unread

-- the first fault of the line of a ledger
abbrev pub ledger_line_fault : Data → Option (Fault × Place)
ledger_line_fault d =
    first_reason
    (fault_at place.Line (mark_fault d)
    ∷ (if is_unread d then fault_at place.Line (id_fault d) else ledger_fault d) ∷ [])

abbrev pub ledger_line_in : Data → Line
ledger_line_in d = if is_unread d then Unread (number_of d field.Id) else Ledger (ledger_in d)

-- the first fault of an object's line
abbrev pub object_fault : Data → Option (Fault × Place)
object_fault d =
    if has d field.Inventory then head_fault d
    else (if has d field.End then fault_at place.Line (end_fault d) else ledger_line_fault d)

-- the first fault of a line
abbrev pub line_fault : Data → Option (Fault × Place)
line_fault d =
    first_reason (fault_at place.Line (reason_unless (is_object d) (WrongKind field.Line)) ∷ object_fault d ∷ [])

-- what a line without a fault says
abbrev pub line_in : Data → Line
line_in d =
    if has d field.Inventory then Head (head_in d)
    else (if has d field.End then End (number_of d field.Ledgers) else ledger_line_in d)

-- what it says, unless there is a fault
abbrev pub unless_fault : Option (Fault × Place) → Line → Result Line (Fault × Place)
unless_fault None line = Ok line
unless_fault (Some found) line = Err found

-- what bytes are as JSON
abbrev pub json_of : List ℕ → Option Data
json_of bytes = if is_utf8 bytes then read bytes else None

abbrev pub json_in : List ℕ → Result Data (Fault × Place)
json_in bytes = ok_or (json_of bytes) (NotJson, place.Line)

-- what a JSON value says, which there must be
abbrev pub said_by : Result Data (Fault × Place) → Result Line (Fault × Place)
said_by (Ok d) = unless_fault (line_fault d) (line_in d)
said_by (Err found) = Err found

-- what a line's bytes say, or their first fault and where that is
abbrev pub located_line_of : List ℕ → Result Line (Fault × Place)
located_line_of bytes = said_by (json_in bytes)
