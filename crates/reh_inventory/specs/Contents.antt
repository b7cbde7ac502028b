-- What the line of a ledger tells of the entries that bookies hold. Beside what each field must be it is settled here:
-- * a ledger's line may be without `contents`: then nothing is told of its members;
-- * of a ledger at most one content tells of a bookie, and a bookie with a content needn't be a member;
-- * ranges may name entries that no bookie carries;
-- * a content with an empty list `told` speaks of no entry.
use Rattle.std.specs.Prelude.{ℕ, ◌+◌, Bool, not, ◌&&◌, ◌||◌, nat_le, List, [], ◌∷◌, map, if◌then◌else◌, Option, None, Some, Result}
use Rattle.std.specs.List.{list_any, last_or}
use Rattle.std.specs.Option.{ok_or, option_and_then, option_map, option_map_or}
use Rattle.std.specs.Result.{result_err, result_unwrap_or}
use Rattle.std.specs.Str.{bytes_eq}
use Rattle.serde_json.specs.Data.{Data}
use Rattle.serde_json.specs.Find.{as_number, as_u64, as_array}
use Rattle.reh_model.specs.Checks.{first_reason, reason_unless}
use Rattle.reh_fields.specs.Members.{elements, is_object}
use Rattle.reh_census.specs.declared.ledgers.Range.{Range}
use Rattle.reh_census_file.specs.declared.lists.TheConstants.{MAX_NAMES}
use Rattle.reh_inventory_fields.specs.declared.fields.Field.{Field}
use Rattle.reh_inventory_fields.specs.declared.fields.Field.TheVariants as field
use Rattle.reh_inventory_fields.specs.declared.faults.Fault.{Fault}
use Rattle.reh_inventory_fields.specs.declared.faults.Fault.TheVariants.{WrongKind, Limit, Twice, EntriesOrLacks}
use Rattle.reh_inventory.specs.declared.contents.Content.{Content}
use Rattle.reh_inventory.specs.declared.contents.Entries.{Entries}
use Rattle.reh_inventory.specs.declared.contents.Entries.TheVariants.{Holds, Lacks}
use Rattle.reh_inventory_fields.specs.declared.members.TheConstants.{MAX_NUMBER}
use Rattle.reh_inventory_fields.specs.declared.places.Place.{Place}
use Rattle.reh_inventory_fields.specs.declared.places.Place.TheVariants as place
use Rattle.reh_inventory_fields.specs.Faults.{fault_at, fault_along}
use Rattle.reh_inventory_fields.specs.Members.{has, flag_if_there, list_in, mark_of, text_of, list_of, name_fault}
use Rattle.reh_inventory_fields.specs.Members.{list_fault as list_within_fault}

-- Ranges of entries

-- two numbers from 0 on, and nothing else
abbrev pub two_numbers : List Data → Option (ℕ × ℕ)
two_numbers (a ∷ b ∷ []) =
    option_and_then (λ first. option_map (λ last. (first, last)) (option_and_then as_u64 (as_number b)))
    (option_and_then as_u64 (as_number a))
two_numbers ds = None

-- the first and the last entry of a range of this list
abbrev pub ends_in : Field → Data → Result (ℕ × ℕ) Fault
ends_in list d = ok_or (option_and_then (λ items. two_numbers (elements items)) (as_array d)) (WrongKind list)

abbrev pub ends_of : Field → Data → ℕ × ℕ
ends_of list d = result_unwrap_or (ends_in list d) (0, 0)

abbrev pub range_in : Field → Data → Range
range_in list d = record { first = (ends_of list d).0; last = (ends_of list d).1 }

-- where a range may begin after those before it
abbrev pub next_after : Field → List Data → ℕ
next_after list ranges = option_map_or (λ d. (ends_of list d).1 + 1) (last_or None ranges) 0

-- what is wrong with a range that must begin at the least entry or after it
abbrev pub range_fault : Field → ℕ → Data → Option Fault
range_fault list least d =
    first_reason (
    result_err (ends_in list d)
    ∷ reason_unless
    (nat_le least (ends_of list d).0 && nat_le (ends_of list d).0 (ends_of list d).1
    && nat_le (ends_of list d).1 MAX_NUMBER)
    (Limit list)
    ∷ [])

-- the first fault of the ranges of a list of the content of this number
unfoldable pub ranges_fault : ℕ → Field → List Data → Option (Fault × Place)
ranges_fault content list ranges =
    fault_along
    (λ i before d. fault_at (place.Range content list i) (range_fault list (next_after list before) d)) 0 [] ranges

-- the first fault of a list of ranges, which must be there
abbrev pub list_fault : ℕ → Field → Data → Option (Fault × Place)
list_fault content list d =
    first_reason
    (fault_at (place.Content content) (result_err (list_in d list)) ∷ ranges_fault content list (list_of d list) ∷ [])

abbrev pub ranges_in : Field → Data → List Range
ranges_in list d = map (range_in list) (list_of d list)

-- Contents

-- exactly one of `entries` and `lacks` is there
abbrev pub has_one : Data → Bool
has_one d = (has d field.Entries || has d field.Lacks) && not (has d field.Entries && has d field.Lacks)

-- what is wrong with a content before its entries, where contents with these bookies came before
abbrev pub before_entries : List (List ℕ) → Data → Option Fault
before_entries names d =
    first_reason (
    reason_unless (is_object d) (WrongKind field.Content)
    ∷ name_fault d field.Bookie
    ∷ reason_unless (not (list_any (bytes_eq (text_of d field.Bookie)) names)) (Twice field.Bookie)
    ∷ result_err (flag_if_there d field.Assumed)
    ∷ reason_unless (has_one d) EntriesOrLacks
    ∷ [])

abbrev pub entries_fault : ℕ → Data → Option (Fault × Place)
entries_fault content d =
    if has d field.Lacks then list_fault content field.Lacks d else list_fault content field.Entries d

abbrev pub entries_in : Data → Entries
entries_in d =
    if has d field.Lacks then Lacks (ranges_in field.Lacks d) else Holds (ranges_in field.Entries d)

abbrev pub told_fault : ℕ → Data → Option (Fault × Place)
told_fault content d = if has d field.Told then list_fault content field.Told d else None

-- the entries of which it speaks; where this is none, of all
abbrev pub told_in : Data → Option (List Range)
told_in d = if has d field.Told then Some (ranges_in field.Told d) else None

-- the first fault of the content of this number
abbrev pub content_fault : ℕ → List (List ℕ) → Data → Option (Fault × Place)
content_fault content names d =
    first_reason (
    fault_at (place.Content content) (before_entries names d)
    ∷ entries_fault content d
    ∷ told_fault content d
    ∷ [])

abbrev pub content_in : Data → Content
content_in d = record {
  bookie = text_of d field.Bookie;
  entries = entries_in d;
  told = told_in d;
  is_assumed = mark_of d field.Assumed;
}

abbrev pub bookies_in : List Data → List (List ℕ)
bookies_in contents = map (λ d. text_of d field.Bookie) contents

-- the first fault of contents
unfoldable pub each_content_fault : List Data → Option (Fault × Place)
each_content_fault contents = fault_along (λ i before d. content_fault i (bookies_in before) d) 0 [] contents

-- and of those of a ledger
abbrev pub contents_fault : Data → Option (Fault × Place)
contents_fault d =
    if has d field.Contents
    then first_reason
    (fault_at place.Line (list_within_fault d field.Contents 0 MAX_NAMES)
    ∷ each_content_fault (list_of d field.Contents) ∷ [])
    else None

abbrev pub contents_in : Data → List Content
contents_in d = if has d field.Contents then map content_in (list_of d field.Contents) else []
