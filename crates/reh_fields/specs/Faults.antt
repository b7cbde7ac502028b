-- What is printed for faults, and when a call fails with one.
use Rattle.std.specs.Prelude.{◌≡◌, ◌≢◌, ℕ, List, ◌++◌, map, codes, if◌then◌else◌, Option, None, Some, Result}
use Rattle.std.specs.Prelude.{MatchResult}
use Rattle.std.specs.Char.{is_ascii_graphic}
use Rattle.std.specs.Fmt.{decimal}
use Rattle.reh_fields.specs.declared.faults.LedgerFlaw.{LedgerFlaw}
use Rattle.reh_fields.specs.declared.faults.LedgerFlaw.TheVariants as flaw
use Rattle.reh_fields.specs.declared.faults.Repeated.{Repeated}
use Rattle.reh_fields.specs.declared.faults.Repeated.TheVariants as repeated
use Rattle.reh_fields.specs.declared.faults.PictureFault.{PictureFault}
use Rattle.reh_fields.specs.declared.faults.PictureFault.TheVariants.{TooLong, NotJson, Missing, WrongKind, BadName}
use Rattle.reh_fields.specs.declared.faults.PictureFault.TheVariants.{Twice, UnknownBookie, Limit, BadLedger, NoMemory}
use Rattle.reh_fields.specs.Fields.{field_name}

-- a byte of a name, or `?` where it is outside 0x21 to 0x7E
abbrev pub printed_byte : ℕ → ℕ
printed_byte byte = if is_ascii_graphic byte then byte else 63

abbrev pub printed_name : List ℕ → List ℕ
printed_name name = map printed_byte name

abbrev pub repeated_text : Repeated → List ℕ
repeated_text (repeated.Bookie name) = printed_name name
repeated_text (repeated.Ledger ledger) = decimal ledger
repeated_text (repeated.Content name ledger) = printed_name name ++ (codes " " ++ decimal ledger)

abbrev pub flaw_name : LedgerFlaw → List ℕ
flaw_name flaw.Quorum = codes "Quorum"
flaw_name flaw.Fragment = codes "Fragment"
flaw_name flaw.Ensemble = codes "Ensemble"
flaw_name flaw.Last = codes "Last"
flaw_name flaw.Unknown = codes "Unknown"

-- number, name and values, with a space between each two
abbrev pub fault_text : PictureFault → List ℕ
fault_text TooLong = codes "1 TooLong"
fault_text NotJson = codes "2 NotJson"
fault_text (Missing field) = codes "3 Missing " ++ field_name field
fault_text (WrongKind field) = codes "4 WrongKind " ++ field_name field
fault_text BadName = codes "5 BadName"
fault_text (Twice repeated) = codes "6 Twice " ++ repeated_text repeated
fault_text (UnknownBookie name) = codes "7 UnknownBookie " ++ printed_name name
fault_text (Limit field) = codes "8 Limit " ++ field_name field
fault_text (BadLedger ledger flaw) = codes "9 BadLedger " ++ (decimal ledger ++ (codes " " ++ flaw_name flaw))
fault_text NoMemory = codes "10 NoMemory"

-- The call fails with this fault, and succeeds where there is none; but for lack of memory it may always fail.
abbrev pub FailsWith : {A : Type 0} → Result A PictureFault → Option PictureFault → Type 0
FailsWith result fault = MatchResult result (λ _. fault ≡ None) (λ failure. failure ≢ NoMemory → fault ≡ Some failure)
