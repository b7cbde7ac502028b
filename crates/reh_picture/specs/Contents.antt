-- What the bookies of a picture hold.
use Rattle.std.specs.Prelude.{◌≡◌, ℕ, ◌+◌, ◌*◌, ◌/◌, ◌<◌, All, Bool, not, ◌&&◌, nat_eq, nat_le, List, [], ◌∷◌, map}
use Rattle.std.specs.Prelude.{Option, None, Result}
use Rattle.std.specs.List.{list_any, flat_map, last_or}
use Rattle.std.specs.Option.{ok_or, option_and_then, option_map, option_map_or}
use Rattle.std.specs.Result.{result_err, result_unwrap_or}
use Rattle.serde_json.specs.Data.{Data}
use Rattle.reh_types.specs.declared.limits.TheConstants.{ENTRIES_IN_WORD, MAX_ENTRY_ID}
use Rattle.serde_json.specs.Find.{as_number, as_u64, as_array}
use Rattle.reh_types.specs.Sets as set
use Rattle.reh_model.specs.Striping.{range}
use Rattle.reh_model.specs.Contents as model
use Rattle.reh_model.specs.Cluster.{Ledger}
use Rattle.reh_model.specs.WellFormed.{IsCopy}
use Rattle.reh_held.specs.Values.{HeldValue, words_in}
use Rattle.reh_fields.specs.declared.fields.Field.TheVariants as field
use Rattle.reh_fields.specs.declared.faults.LedgerFlaw.TheVariants as flaw
use Rattle.reh_fields.specs.declared.faults.Repeated.TheVariants as repeated
use Rattle.reh_fields.specs.declared.faults.PictureFault.{PictureFault}
use Rattle.reh_fields.specs.declared.faults.PictureFault.TheVariants.{WrongKind, Twice, Limit, BadLedger}
use Rattle.reh_model.specs.Checks.{first_reason, reason_unless}
use Rattle.reh_fields.specs.Members.{elements, is_object, number_in, text_in, list_in, number_of, text_of, list_of, mark_of}
use Rattle.reh_fields.specs.Names.{bookie_in, known_fault}
use Rattle.reh_picture.specs.declared.places.Place.{Place}
use Rattle.reh_picture.specs.declared.places.Place.TheVariants as place
use Rattle.reh_picture.specs.Places.{fault_at, fault_along}

-- Ranges of entries

-- two numbers from 0 on, and nothing else
abbrev pub two_numbers : List Data → Option (ℕ × ℕ)
two_numbers (a ∷ b ∷ []) =
    option_and_then (λ first. option_map (λ last. (first, last)) (option_and_then as_u64 (as_number b)))
    (option_and_then as_u64 (as_number a))
two_numbers ds = None

-- the first and the last entry of a range
abbrev pub ends_in : Data → Result (ℕ × ℕ) PictureFault
ends_in d = ok_or (option_and_then (λ list. two_numbers (elements list)) (as_array d)) (WrongKind field.Entries)

abbrev pub ends_of : Data → ℕ × ℕ
ends_of d = result_unwrap_or (ends_in d) (0, 0)

-- where a range may begin after those before it
abbrev pub next_after : List Data → ℕ
next_after ranges = option_map_or (λ d. (ends_of d).1 + 1) (last_or None ranges) 0

-- what is wrong with a range that must begin at the least entry or after it
abbrev pub range_fault : ℕ → Data → Option PictureFault
range_fault least d =
    first_reason (
    result_err (ends_in d)
    ∷ reason_unless
    (nat_le least (ends_of d).0 && nat_le (ends_of d).0 (ends_of d).1 && nat_le (ends_of d).1 MAX_ENTRY_ID)
    (Limit field.Entries)
    ∷ [])

-- the first fault of the ranges of the content of this number
unfoldable pub ranges_fault : ℕ → List Data → Option (PictureFault × Place)
ranges_fault content ranges =
    fault_along (λ i before d. fault_at (place.Range content i) (range_fault (next_after before) d)) 0 [] ranges

-- Contents

-- what one bookie holds of one ledger, by the first and the last entry of each range
pub record Holding : Type 0 where
  pub bookie : ℕ
  pub ledger : ℕ
  -- nobody told it: a rehearsal doesn't look at that
  pub is_assumed : Bool
  pub ranges : List (ℕ × ℕ)

abbrev pub holding_in : List (List ℕ) → Data → Holding
holding_in names d =
    record {
      bookie = bookie_in names (text_of d field.Bookie);
      ledger = number_of d field.Ledger;
      is_assumed = mark_of d field.Assumed;
      ranges = map ends_of (list_of d field.Entries);
    }

abbrev pub pair_of : List (List ℕ) → Data → ℕ × ℕ
pair_of names d = ((holding_in names d).bookie, (holding_in names d).ledger)

abbrev pub pairs_in : List (List ℕ) → List Data → List (ℕ × ℕ)
pairs_in names contents = map (pair_of names) contents

abbrev pub is_pair : ℕ × ℕ → ℕ × ℕ → Bool
is_pair p q = nat_eq p.0 q.0 && nat_eq p.1 q.1

-- The first fault of a bookie and a ledger that follow these pairs, in a picture whose bookies have these names and
-- whose ledgers have these ids.
abbrev pub pair_fault : List (List ℕ) → List ℕ → List (ℕ × ℕ) → Data → Option PictureFault
pair_fault names ids pairs d =
    first_reason (
    reason_unless (is_object d) (WrongKind field.Content)
    ∷ result_err (text_in d field.Bookie)
    ∷ known_fault names (text_of d field.Bookie)
    ∷ result_err (number_in d field.Ledger)
    ∷ reason_unless (list_any (nat_eq (number_of d field.Ledger)) ids)
    (BadLedger (number_of d field.Ledger) flaw.Unknown)
    ∷ reason_unless (not (list_any (is_pair (pair_of names d)) pairs))
    (Twice (repeated.Content (text_of d field.Bookie) (number_of d field.Ledger)))
    ∷ [])

-- the first fault of the content of this number
abbrev pub content_fault : List (List ℕ) → List ℕ → ℕ → List (ℕ × ℕ) → Data → Option (PictureFault × Place)
content_fault names ids content pairs d =
    first_reason (
    fault_at (place.Content content) (pair_fault names ids pairs d)
    ∷ fault_at (place.Content content) (result_err (list_in d field.Entries))
    ∷ ranges_fault content (list_of d field.Entries)
    ∷ [])

-- the first fault of contents
unfoldable pub each_content_fault : List (List ℕ) → List ℕ → List Data → Option (PictureFault × Place)
each_content_fault names ids contents =
    fault_along (λ i before d. content_fault names ids i (pairs_in names before) d) 0 [] contents

-- what is wrong with a picture's contents
unfoldable pub contents_fault : List (List ℕ) → List ℕ → Data → Option (PictureFault × Place)
contents_fault names ids d =
    first_reason
    (fault_at place.Picture (result_err (list_in d field.Contents))
    ∷ each_content_fault names ids (list_of d field.Contents) ∷ [])

-- (bookie, ledger, entry) for each entry of a range
abbrev pub copies_within : ℕ → ℕ → ℕ × ℕ → List (ℕ × ℕ × ℕ)
copies_within bookie ledger ends = map (λ e. (bookie, ledger, e)) (range ends.0 (ends.1 + 1))

-- the same for each entry of what is held
abbrev pub copies_in : Holding → List (ℕ × ℕ × ℕ)
copies_in holding = flat_map (copies_within holding.bookie holding.ledger) holding.ranges

abbrev pub held_in : List Holding → model.Contents
held_in holdings = set.from_list (flat_map copies_in holdings)

-- how many words of entries reach the greatest one; none where there is none
abbrev pub words_to : Option ℕ → ℕ
words_to greatest = option_map_or (λ greatest. greatest / ENTRIES_IN_WORD + 1) greatest 0

-- these are the greatest entries of the ledgers that are held
abbrev pub IsGreatest : (ℕ → Option ℕ) → model.Contents → Type 0
IsGreatest ends contents = (ledger : ℕ) → ends ledger ≡ model.greatest_held contents ledger

-- the last entry of each range lies within the words of the ledger, which is one of these, and the bookie is one of so
-- many
abbrev pub HasEnds : ℕ → List Ledger → Holding → Type 0
HasEnds bookies ledgers holding =
    All (λ range. IsCopy bookies ledgers (holding.bookie, holding.ledger, range.1)) holding.ranges

-- the last entry of each range lies within the bookie's row of the ledger
abbrev pub FitsIn : HeldValue → Holding → Type 0
FitsIn held holding =
    All (λ range. (holding.bookie < held.bookies) × (range.1 < ENTRIES_IN_WORD * words_in held holding.ledger))
    holding.ranges
