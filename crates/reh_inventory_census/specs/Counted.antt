-- The ledger of a line, as a census counts it. A ledger of a census says one thing of all entries of a bookie: that it holds
-- these, that it lacks these of those that are striped onto it, or that nobody told. So not each line has one.
use Rattle.std.specs.Prelude.{ℕ, ◌+◌, ◌-◌, max, min, Bool, true, false, not, ◌&&◌, ◌||◌, ◌==◌, nat_le, nat_lt, List, [], ◌∷◌, map}
use Rattle.std.specs.Prelude.{length, fold, if◌then◌else◌, Option, None, Some, slice_get, unwrap_or, position}
use Rattle.std.specs.List.{list_any}
use Rattle.std.specs.Option.{is_none, option_map_or}
use Rattle.std.specs.Str.{bytes_eq}
use Rattle.reh_census.specs.declared.ledgers.Content.{Content as CountedContent}
use Rattle.reh_census.specs.declared.ledgers.Fragment.{Fragment as CountedFragment}
use Rattle.reh_census.specs.declared.ledgers.LedgerState.{LedgerState as CountedState}
use Rattle.reh_census.specs.declared.ledgers.LedgerState.TheVariants as census
use Rattle.reh_census.specs.declared.ledgers.Range.{Range}
use Rattle.reh_census.specs.declared.ledgers.Told.{Told}
use Rattle.reh_census.specs.declared.ledgers.Told.TheVariants as told
use Rattle.reh_census.specs.Ledgers.{Ledger, ledger_by}
use Rattle.reh_census.specs.Striping.{range}
use Rattle.reh_inventory.specs.declared.contents.Content.{Content}
use Rattle.reh_inventory.specs.declared.contents.Entries.{Entries}
use Rattle.reh_inventory.specs.declared.contents.Entries.TheVariants.{Holds, Lacks}
use Rattle.reh_inventory_census.specs.declared.counted.Reading.{Reading}
use Rattle.reh_inventory.specs.declared.ledgers.Fragment.{Fragment}
use Rattle.reh_inventory.specs.declared.ledgers.LedgerLine.{LedgerLine}
use Rattle.reh_inventory.specs.declared.ledgers.LedgerState.{LedgerState}
use Rattle.reh_inventory.specs.declared.ledgers.LedgerState.TheVariants.{Open, InRecovery, Closed}
use Rattle.reh_inventory_fields.specs.declared.members.TheConstants.{MAX_NUMBER}

-- the number of a bookie; one that isn't among the names isn't registered
abbrev pub number_in : List (List ℕ) → List ℕ → ℕ
number_in names name = unwrap_or (position (bytes_eq name) names) 65535

-- Which entries are counted

-- where a ledger in this state ends, if that is known
abbrev pub end_of : LedgerState → Option ℕ
end_of Open = None
end_of InRecovery = None
end_of (Closed end) = Some end

abbrev pub state_of : LedgerState → CountedState
state_of Open = census.Open
state_of InRecovery = census.InRecovery
state_of (Closed end) = census.Closed

-- one past the greatest entry that a bookie is told or assumed to hold; 0 where there is none
abbrev pub end_after : ℕ → Range → ℕ
end_after end r = max end (min r.last MAX_NUMBER + 1)

abbrev pub end_held : ℕ → Entries → ℕ
end_held end (Holds ranges) = fold end_after end ranges
end_held end (Lacks ranges) = end

abbrev pub end_told : List Content → ℕ
end_told contents = fold (λ end content. end_held end content.entries) 0 contents

-- where a fragment stops: where the next one begins, or where the ledger ends, if that is known
abbrev pub stop_of : LedgerLine → ℕ → Option ℕ
stop_of g f = option_map_or (λ next. Some next.first) (slice_get g.fragments (f + 1)) (end_of g.state)

abbrev pub first_of : LedgerLine → ℕ → ℕ
first_of g f = option_map_or (λ fragment. fragment.first) (slice_get g.fragments f) 0

-- the fragment of that number: up to its stop, or, where it has none, to the end of what is told
abbrev pub fragment_of : List (List ℕ) → ℕ → LedgerLine → ℕ → CountedFragment
fragment_of names end g f = record {
  first = first_of g f;
  stop = unwrap_or (stop_of g f) (max (first_of g f) end);
  ensemble = map (number_in names) (option_map_or (λ fragment. fragment.ensemble) (slice_get g.fragments f) []);
}

abbrev pub last_first : LedgerLine → ℕ
last_first g = first_of g (length g.fragments - 1)

-- where the counted entries of a ledger that isn't closed end
abbrev pub open_end : LedgerLine → ℕ
open_end g = max (end_told g.contents) (last_first g)

-- whether entries of a last fragment without a stop are counted
abbrev pub has_loose : LedgerLine → Bool
has_loose g = is_none (end_of g.state) && nat_lt (last_first g) (open_end g)

-- how what is told of a ledger is read
abbrev pub reading_of : Bool → LedgerLine → Reading
reading_of strict g = record {
  is_strict = strict;
  end = unwrap_or (end_of g.state) (open_end g);
  has_loose = has_loose g;
  has_both = has_loose g && nat_lt 1 (length g.fragments);
}

-- What a content says

-- whether each entry below this end is one of the range
abbrev pub covers : ℕ → Range → Bool
covers end r = (r.first == 0) && nat_le (end - 1) r.last

-- whether a content speaks of no entry
abbrev pub speaks_of_none : Option (List Range) → Bool
speaks_of_none None = false
speaks_of_none (Some []) = true
speaks_of_none (Some (r ∷ rs)) = false

-- whether it speaks of some entries below this end, and maybe not of others
abbrev pub speaks_partly : ℕ → Option (List Range) → Bool
speaks_partly end None = false
speaks_partly end (Some []) = false
speaks_partly end (Some (r ∷ rs)) = not (list_any (covers end) (r ∷ rs))

abbrev pub is_lacking : Entries → Bool
is_lacking (Holds ranges) = false
is_lacking (Lacks ranges) = true

-- of a last fragment without a stop it says nothing, if it is assumed, or names what the bookie lacks
abbrev pub needs_stop : Content → Bool
needs_stop content = content.is_assumed || is_lacking content.entries

abbrev pub is_unheard : Bool → Content → Bool
is_unheard strict content = (strict && content.is_assumed) || speaks_of_none content.told

-- whether it tells what its bookie holds of some entries that are counted, and maybe not of others
abbrev pub is_partial : Reading → Content → Bool
is_partial reading content =
    not (is_unheard reading.is_strict content)
    && (speaks_partly reading.end content.told || (reading.has_both && needs_stop content))

abbrev pub told_as : Entries → Told
told_as (Holds ranges) = told.Holds ranges
told_as (Lacks ranges) = told.Lacks ranges

-- what it tells, if that isn't so
abbrev pub heard_by : Reading → Content → Told
heard_by reading content =
    if is_unheard reading.is_strict content || (reading.has_loose && needs_stop content) then told.Untold
    else told_as content.entries

-- where it is so, the bookie counts as untold
abbrev pub told_by : Reading → Content → Told
told_by reading content = if is_partial reading content then told.Untold else heard_by reading content

abbrev pub content_by : List (List ℕ) → Reading → Content → CountedContent
content_by names reading content = record {
  bookie = number_in names content.bookie;
  told = told_by reading content;
}

-- Members of which no content tells

abbrev pub has_content : List Content → List ℕ → Bool
has_content contents name = list_any (λ content. bytes_eq content.bookie name) contents

abbrev pub leaves_member : List Content → Fragment → Bool
leaves_member contents fragment = list_any (λ name. not (has_content contents name)) fragment.ensemble

abbrev pub leaves_some : LedgerLine → Bool
leaves_some g = list_any (leaves_member g.contents) g.fragments

-- where they are assumed to hold what is striped onto them, that is up to each fragment's stop; where that tells of some
-- entries that are counted, and not of others, they count as untold
abbrev pub rest_of : Bool → Reading → Told
rest_of assumes reading =
    if assumes && not reading.is_strict && not reading.has_loose then told.Lacks [] else told.Untold

-- Ledgers

-- whether of a bookie it may be told what it holds of some entries that are counted, and not of others
abbrev pub is_told_partly : Bool → Reading → LedgerLine → Bool
is_told_partly assumes reading g =
    list_any (is_partial reading) g.contents
    || (assumes && not reading.is_strict && reading.has_both && leaves_some g)

-- the ledger of a line that is read so, of whose members this is told
abbrev pub ledger_with : List (List ℕ) → Reading → LedgerLine → List CountedContent → Told → Ledger
ledger_with names reading g contents rest =
    ledger_by (state_of g.state) g.sizes.ensemble g.sizes.write_quorum g.sizes.ack_quorum
    (map (fragment_of names reading.end g) (range 0 (length g.fragments))) contents rest

abbrev pub counted_by : List (List ℕ) → Bool → Reading → LedgerLine → Ledger
counted_by names assumes reading g =
    ledger_with names reading g (map (content_by names reading) g.contents) (rest_of assumes reading)

-- the ledger of a line, where a bookie of which it may be told partly counts as untold
abbrev pub counted : List (List ℕ) → Bool → Bool → LedgerLine → Ledger
counted names assumes strict g = counted_by names assumes (reading_of strict g) g

-- what a content tells of what is assumed alone
abbrev pub assumed_by : List (List ℕ) → Reading → Content → CountedContent
assumed_by names reading content = record {
  bookie = number_in names content.bookie;
  told = if content.is_assumed then told_by reading content else told.Untold;
}

-- the ledger of a line, if just that is told of it which is assumed
abbrev pub assumed : List (List ℕ) → Bool → LedgerLine → Ledger
assumed names assumes g =
    ledger_with names (reading_of false g) g (map (assumed_by names (reading_of false g)) g.contents)
    (rest_of assumes (reading_of false g))
