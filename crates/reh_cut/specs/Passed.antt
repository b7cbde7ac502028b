-- Which limits of a picture ledgers of an inventory pass.
use Rattle.std.specs.Prelude.{◌≡◌, ◌≢◌, ◌⊎◌, ℕ, ◌-◌, ◌<◌, Bool, nat_lt, List, [], ◌∷◌, length, Option, None, Some, count_by, unwrap_or, if◌then◌else◌}
use Rattle.std.specs.Prelude.{IfErr, Result}
use Rattle.std.specs.List.{find}
use Rattle.std.specs.Option.{ForSome, is_some, option_and_then, option_map, option_or}
use Rattle.std.specs.Str.{bytes_eq}
use Rattle.reh_cut.specs.Cuts.{bound_of, first_unknown, refills}
use Rattle.reh_cut.specs.declared.faults.CutFault.{CutFault}
use Rattle.reh_cut.specs.declared.faults.CutFault.TheVariants as fault
use Rattle.reh_cut.specs.declared.limits.LedgerLimit.TheVariants as of_one
use Rattle.reh_cut.specs.declared.limits.Limit.{Limit}
use Rattle.reh_cut.specs.declared.limits.Limit.TheVariants as passed
use Rattle.reh_cut.specs.declared.limits.TotalLimit.{TotalLimit}
use Rattle.reh_cut.specs.declared.limits.TotalLimit.TheVariants as of_all
use Rattle.reh_cut.specs.declared.said.Assume.{Assume}
use Rattle.reh_fields.specs.declared.faults.PictureFault.{PictureFault}
use Rattle.reh_fields.specs.declared.faults.PictureFault.TheVariants as picture
use Rattle.reh_fields.specs.declared.fields.Field.TheVariants.{Contents}
use Rattle.reh_inventory.specs.declared.heads.Head.{Head}
use Rattle.reh_inventory.specs.declared.ledgers.Fragment.{Fragment}
use Rattle.reh_inventory.specs.declared.ledgers.LedgerLine.{LedgerLine}
use Rattle.reh_inventory_census.specs.Counted.{last_first}
use Rattle.reh_picture.specs.declared.places.LocatedFault.{LocatedFault}
use Rattle.reh_types.specs.declared.limits.TheConstants.{ENTRY_END, MAX_BOOKIES, MAX_ENSEMBLE_SIZE, MAX_ENTRY_ID, MAX_FRAGMENTS}
use Rattle.reh_types.specs.declared.limits.TheConstants.{MAX_LEDGER_ID, MAX_LEDGERS, MAX_PICTURE_BYTES, MAX_VERSION}
use Rattle.reh_window.specs.Windows.{width_of}

abbrev pub as_fault : Option Limit → Option CutFault
as_fault limit = option_map fault.Limit limit

-- One ledger

-- the id, the ensemble size or the version
abbrev pub number_limit : LedgerLine → Option Limit
number_limit line =
    if nat_lt MAX_LEDGER_ID line.id then Some (passed.Ledger line.id (record { limit = of_one.Id; number = line.id }))
    else (if nat_lt MAX_ENSEMBLE_SIZE line.sizes.ensemble
    then Some (passed.Ledger line.id (record { limit = of_one.EnsembleSize; number = line.sizes.ensemble }))
    else (if nat_lt MAX_VERSION (unwrap_or line.version 0)
    then Some (passed.Ledger line.id (record { limit = of_one.Version; number = unwrap_or line.version 0 }))
    else None))

-- a member that stands more than once in the ensemble
abbrev pub stands_twice : List (List ℕ) → List ℕ → Bool
stands_twice ensemble name = nat_lt 1 (count_by (λ member. bytes_eq member name) ensemble)

abbrev pub repeated_in : List (List ℕ) → Option (List ℕ)
repeated_in ensemble = find (stands_twice ensemble) ensemble

abbrev pub repeats : Fragment → Bool
repeats fragment = is_some (repeated_in fragment.ensemble)

abbrev pub first_repeating : LedgerLine → Option Fragment
first_repeating line = find repeats line.fragments

abbrev pub ensemble_limit : ℕ → Fragment → Option Limit
ensemble_limit id fragment =
    option_map (λ name. passed.Twice id (record { 0 = name; 1 = fragment.first })) (repeated_in fragment.ensemble)

-- a bookie twice in an ensemble
abbrev pub member_limit : LedgerLine → Option Limit
member_limit line = option_and_then (ensemble_limit line.id) (first_repeating line)

-- the last entry, the first one of the last fragment, or how many fragments there are
abbrev pub entry_limit : LedgerLine → Option Limit
entry_limit line =
    if nat_lt ENTRY_END (bound_of line) then Some (passed.Entries line.id (bound_of line - 1) (record { 0 = width_of line }))
    else (if nat_lt MAX_ENTRY_ID (last_first line)
    then Some (passed.Fragment line.id (last_first line) (record { 0 = width_of line }))
    else (if nat_lt MAX_FRAGMENTS (length line.fragments)
    then Some (passed.Ledger line.id (record { limit = of_one.Fragments; number = length line.fragments }))
    else None))

-- the first limit that the line passes
abbrev pub limits_fault : LedgerLine → Option CutFault
limits_fault line =
    option_or (as_fault (number_limit line)) (option_or (as_fault (member_limit line)) (as_fault (entry_limit line)))

-- All of them together

abbrev pub past_total : TotalLimit → ℕ → ℕ → CutFault
past_total limit number ledgers =
    fault.Limit (passed.Total (record { sum = record { limit = limit; number = number }; ledgers = ledgers }))

-- how many ledgers there are
abbrev pub count_fault : ℕ → Option CutFault
count_fault ledgers = if nat_lt MAX_LEDGERS ledgers then Some (past_total of_all.Ledgers ledgers ledgers) else None

-- how many bytes their picture has
abbrev pub size_fault : ℕ → ℕ → Option CutFault
size_fault bytes ledgers =
    if nat_lt MAX_PICTURE_BYTES bytes then Some (past_total of_all.Bytes bytes ledgers) else None

-- why what would be written for so many ledgers is no picture: the entries that are held of them take so many words
abbrev pub no_picture_by : PictureFault → LocatedFault → ℕ → ℕ → CutFault
no_picture_by picture.NoMemory located words ledgers = fault.NoMemory
no_picture_by (picture.Limit Contents) located words ledgers = past_total of_all.Words words ledgers
no_picture_by other located words ledgers = fault.NoPicture located

abbrev pub no_picture : LocatedFault → ℕ → ℕ → CutFault
no_picture located words ledgers = no_picture_by located.fault located words ledgers

-- so many ledgers name more bookies than a picture may have, or there is no memory
abbrev pub IsPastBookies : ℕ → CutFault → Type 0
IsPastBookies ledgers failure =
    (failure ≡ fault.NoMemory)
    ⊎ ((bookies : ℕ) × (MAX_BOOKIES < bookies) × (failure ≡ past_total of_all.Bookies bookies ledgers))

-- The lines

-- a bookie that came back without its disk is said to hold entries
abbrev pub refill_fault : Head → LedgerLine → Option CutFault
refill_fault head line = if refills head line then Some (fault.HoldsThoughEmpty line.id) else None

-- nobody says what a member of the last fragment holds of a ledger that isn't closed
abbrev pub unknown_fault : Head → Assume → LedgerLine → Option CutFault
unknown_fault head assume line = option_map (fault.Untold line.id) (first_unknown head assume line)

-- the first fault of a line that is found without a picture
abbrev pub line_fault : Head → Assume → LedgerLine → Option CutFault
line_fault head assume line =
    option_or (limits_fault line) (option_or (refill_fault head line) (unknown_fault head assume line))

abbrev pub each_line_fault : Head → Assume → List LedgerLine → Option CutFault
each_line_fault head assume [] = None
each_line_fault head assume (line ∷ lines) = option_or (line_fault head assume line) (each_line_fault head assume lines)

-- the first fault of all lines that is found without a picture
abbrev pub lines_fault : Head → Assume → List LedgerLine → Option CutFault
lines_fault head assume lines = option_or (count_fault (length lines)) (each_line_fault head assume lines)

-- where there is such a fault and the call fails, it fails with that, or for lack of memory
abbrev pub NamesFault : {A : Type 0} → Result A CutFault → Option CutFault → Type 0
NamesFault result found = ForSome found (λ first. IfErr result (λ failure. failure ≢ fault.NoMemory → first ≡ failure))
