-- The windows of a ledger that has more entries than a picture may have. A window has as many entries as the greatest
-- multiple of the ensemble size for which a picture has room. So an entry is striped onto the same members of an ensemble,
-- whether it is counted from the ledger's first entry on or from the window's.
use Rattle.std.specs.Prelude.{◌≡◌, ◌≢◌, ℕ, ◌+◌, ◌-◌, ◌*◌, ◌/◌, max, min, Bool, true, not, ◌&&◌, ◌==◌, nat_le, nat_lt, List, [], ◌∷◌, map}
use Rattle.std.specs.Prelude.{if◌then◌else◌, Option, None, Some, slice_get, unwrap_or, Result, MatchResult}
use Rattle.std.specs.List.{filter_map}
use Rattle.std.specs.Option.{is_none, option_map, option_map_or}
use Rattle.reh_census.specs.declared.ledgers.Range.{Range}
use Rattle.reh_inventory.specs.declared.contents.Content.{Content}
use Rattle.reh_inventory.specs.declared.contents.Entries.{Entries}
use Rattle.reh_inventory.specs.declared.contents.Entries.TheVariants.{Holds, Lacks}
use Rattle.reh_inventory.specs.declared.ledgers.Fragment.{Fragment}
use Rattle.reh_inventory.specs.declared.ledgers.LedgerLine.{LedgerLine}
use Rattle.reh_inventory.specs.declared.ledgers.LedgerState.{LedgerState}
use Rattle.reh_inventory.specs.declared.ledgers.LedgerState.TheVariants.{Closed}
use Rattle.reh_inventory_census.specs.Counted.{end_of, end_told, last_first}
use Rattle.reh_inventory_fields.specs.declared.members.TheConstants.{MAX_ENSEMBLE, MAX_NUMBER}
use Rattle.reh_types.specs.declared.limits.TheConstants.{ENTRY_END}
use Rattle.reh_window.specs.declared.faults.WindowFault.{WindowFault}
use Rattle.reh_window.specs.declared.faults.WindowFault.TheVariants.{NoMemory, PastLast, Unfit, Unsettled}
use Rattle.reh_window.specs.declared.spans.Span.{Span}

-- The entries of a window

-- how many they are
abbrev pub width_of : LedgerLine → ℕ
width_of line = (ENTRY_END / line.sizes.ensemble) * line.sizes.ensemble

-- from the start up to, but without, the stop
abbrev pub span_of : ℕ → LedgerLine → Span
span_of window line = record {
  start = window * width_of line;
  stop = window * width_of line + width_of line;
}

-- the last entry of a closed ledger; of another one the greatest that a bookie is told or assumed to hold, or the first one
-- of the last fragment, if that is greater
abbrev pub last_entry : LedgerLine → ℕ
last_entry line =
    option_map_or (λ end. end - 1) (end_of line.state) (max (last_first line) (end_told line.contents - 1))

-- Which windows there are

-- the number of the last one, which has the last entry
abbrev pub last_window : LedgerLine → ℕ
last_window line = last_entry line / width_of line

-- whether an inventory may have such a line
abbrev pub is_fit : LedgerLine → Bool
is_fit line =
    nat_le 1 line.sizes.ensemble && nat_le line.sizes.ensemble MAX_ENSEMBLE && nat_le (last_entry line) MAX_NUMBER

-- whether the ledger isn't closed, and the window has entries of its last fragment, but not the last entry that is known
abbrev pub is_unsettled : ℕ → LedgerLine → Bool
is_unsettled window line =
    is_none (end_of line.state) && nat_lt window (last_window line)
    && nat_lt (last_first line) (span_of window line).stop

-- why there is no window of this number, if there is none
abbrev pub window_fault : ℕ → LedgerLine → Option WindowFault
window_fault window line =
    if not (is_fit line) then Some Unfit
    else (if nat_lt (last_window line) window then Some (PastLast (last_window line))
    else (if is_unsettled window line then Some (Unsettled (last_first line) (last_window line)) else None))

abbrev pub has_window : ℕ → LedgerLine → Bool
has_window window line = is_none (window_fault window line)

-- The call fails with this fault, and succeeds where there is none; but for lack of memory it may always fail.
abbrev pub FailsWith : {A : Type 0} → Result A WindowFault → Option WindowFault → Type 0
FailsWith result fault = MatchResult result (λ _. fault ≡ None) (λ failure. failure ≢ NoMemory → fault ≡ Some failure)

-- What a window tells, where its entries are counted from its start on

-- whether a range has entries of it
abbrev pub meets : Span → Range → Bool
meets span range = nat_lt range.first span.stop && nat_le span.start range.last

-- the part of the range that has them
abbrev pub clipped : Span → Range → Range
clipped span range = record {
  first = range.first - span.start;
  last = min range.last (span.stop - 1) - span.start;
}

abbrev pub range_in : Span → Range → Option Range
range_in span range = if meets span range then Some (clipped span range) else None

abbrev pub ranges_in : Span → List Range → List Range
ranges_in span ranges = filter_map (range_in span) ranges

abbrev pub entries_in : Span → Entries → Entries
entries_in span (Holds ranges) = Holds (ranges_in span ranges)
entries_in span (Lacks ranges) = Lacks (ranges_in span ranges)

abbrev pub content_in : Span → Content → Content
content_in span content = record content {
  entries = entries_in span content.entries;
  told = option_map (ranges_in span) content.told;
}

-- a fragment has entries of the window, if it begins before the window's stop, and the next one, if there is one, begins
-- after the window's start
abbrev pub has_some : Span → Fragment → Option Fragment → Bool
has_some span fragment next =
    nat_lt fragment.first span.stop && option_map_or (λ (after : Fragment). nat_lt span.start after.first) next true

abbrev pub fragment_in : Span → Fragment → Fragment
fragment_in span fragment = record fragment { first = fragment.first - span.start }

abbrev pub fragments_in : Span → List Fragment → List Fragment
fragments_in span [] = []
fragments_in span (fragment ∷ rest) =
    if has_some span fragment (slice_get rest 0) then fragment_in span fragment ∷ fragments_in span rest
    else fragments_in span rest

-- where the fragments that stop end: where the ledger ends, or its last fragment begins
abbrev pub settled_end : LedgerLine → ℕ
settled_end line = unwrap_or (end_of line.state) (last_first line)

-- the last window of a ledger that isn't closed is in the ledger's state, each other one is closed
abbrev pub state_in : ℕ → LedgerLine → LedgerState
state_in window line =
    if is_none (end_of line.state) && (window == last_window line) then line.state
    else Closed (min (settled_end line - (span_of window line).start) (width_of line))

-- the window, in place of the line
abbrev pub window_of : ℕ → LedgerLine → LedgerLine
window_of window line = record line {
  state = state_in window line;
  length = None;
  fragments = fragments_in (span_of window line) line.fragments;
  contents = map (content_in (span_of window line)) line.contents;
}
