-- What a cut is: the picture of some ledgers of an inventory, which shows each as its line does.
use Rattle.std.specs.Prelude.{◌≡◌, ℕ, ◌+◌, ◌-◌, max, Bool, true, false, not, ◌&&◌, ◌||◌, ◌==◌, nat_le, nat_lt, List, [], length}
use Rattle.std.specs.Prelude.{Option, None, Ok, position, slice_get, unwrap_or, if◌then◌else◌}
use mathlib.Core.Bool.{beq}
use Rattle.std.specs.List.{find, list_all, list_any, range_with_len}
use Rattle.std.specs.Option.{is_none, is_some, option_and_then, option_eq, option_map_or}
use Rattle.std.specs.Str.{bytes_eq}
use Rattle.reh_cut.specs.declared.said.Assume.{Assume}
use Rattle.reh_cut.specs.declared.said.Assume.TheVariants as kind
use Rattle.reh_cut.specs.declared.said.Rules.{Rules}
use Rattle.reh_cut.specs.declared.said.Striping.{Striping}
use Rattle.reh_cut.specs.Ranges.{is_within}
use Rattle.reh_cut.specs.Said.{is_sure, shown}
use Rattle.reh_inventory.specs.declared.contents.Content.{Content}
use Rattle.reh_inventory.specs.declared.contents.Entries.{Entries}
use Rattle.reh_inventory.specs.declared.contents.Entries.TheVariants.{Holds, Lacks}
use Rattle.reh_inventory.specs.declared.heads.Bookie.{Bookie}
use Rattle.reh_inventory.specs.declared.heads.Head.{Head}
use Rattle.reh_inventory.specs.declared.ledgers.Fragment.{Fragment}
use Rattle.reh_inventory.specs.declared.ledgers.LedgerLine.{LedgerLine}
use Rattle.reh_inventory.specs.declared.ledgers.LedgerState.{LedgerState}
use Rattle.reh_inventory.specs.declared.ledgers.LedgerState.TheVariants.{Open, InRecovery, Closed}
use Rattle.reh_inventory_census.specs.Counted.{end_of, end_told, first_of, is_lacking, last_first, stop_of}
use Rattle.reh_inventory_census.specs.Shown.{ensemble_of}
use Rattle.reh_model.specs.Cluster.{Cluster, Ledger, bookie_named}
use Rattle.reh_model.specs.Metadata.{Fragment as PictureFragment, end_of_state, is_in_recovery, is_open}
use Rattle.reh_picture.specs.Contents.{Holding}
use Rattle.reh_picture.specs.declared.listings.Listed.{Listed}
use Rattle.reh_picture.specs.Listings.{Lists}
use Rattle.reh_picture.specs.Marks.{BookieMarks}
use Rattle.reh_picture.specs.Pictures.{picture_of}
use Rattle.reh_types.specs.declared.limits.TheConstants.{ENTRY_END}
use Rattle.reh_types.specs.declared.names.LedgerState.{LedgerState as PictureState}

-- Bookies

-- what stands for what nobody says, and whether members without a content are assumed to hold what is striped onto them:
-- for a bookie that came back without its disk, that it holds nothing
abbrev pub rules_by : Bool → Bool → Assume → Rules
rules_by empty assumes assume =
    if empty then record { assume = kind.Empty; assumes_striped = false }
    else record { assume = assume; assumes_striped = assumes }

-- the bookie of that name in the first line
abbrev pub bookie_in : Head → List ℕ → Option Bookie
bookie_in head name = find (λ b. bytes_eq b.name name) head.bookies

abbrev pub rules_for : Head → Assume → List ℕ → Rules
rules_for head assume name =
    rules_by (option_map_or (λ b. b.is_empty) (bookie_in head name) false) head.assumes_striped assume

-- whether something is said to be held
abbrev pub says_held : Entries → Bool
says_held (Holds ranges) = nat_lt 0 (length ranges)
says_held (Lacks ranges) = true

-- a content says that its bookie holds entries, though that came back without its disk
abbrev pub holds_though_empty : Head → Content → Bool
holds_though_empty head content =
    option_map_or (λ b. b.is_empty && says_held content.entries) (bookie_in head content.bookie) false

-- a content of the line does
abbrev pub refills : Head → LedgerLine → Bool
refills head line = list_any (holds_though_empty head) line.contents

abbrev pub keeps_empties : Head → LedgerLine → Bool
keeps_empties head line = not (refills head line)

-- the picture's bookie is registered, is read-only and came back without its disk where the first line says so, and has
-- its rack; one that the first line doesn't have isn't registered
abbrev pub shows_bookie : Option Bookie → Bool → BookieMarks → Bool
shows_bookie bookie is_up marks =
    beq (option_map_or (λ b. b.is_up) bookie false) is_up
    && beq (option_map_or (λ b. b.is_read_only) bookie false) marks.is_read_only
    && beq (option_map_or (λ b. b.is_empty) bookie false) marks.is_empty
    && option_eq bytes_eq (option_and_then (λ b. b.rack) bookie) marks.rack

-- the bookie of that number
abbrev pub shows_bookie_at : Head → List (List ℕ) → List (Option ℕ) → List BookieMarks → ℕ → Bool
shows_bookie_at head names lost_at marks i =
    option_map_or
    (λ name. option_map_or
    (λ lost. option_map_or (λ mark. shows_bookie (bookie_in head name) (is_none lost) mark) (slice_get marks i) false)
    (slice_get lost_at i) false)
    (slice_get names i) false

abbrev pub shows_bookies : Head → List (List ℕ) → List (Option ℕ) → List BookieMarks → Bool
shows_bookies head names lost_at marks =
    list_all (shows_bookie_at head names lost_at marks) (range_with_len 0 (length names))

-- Metadata

abbrev pub is_same_state : LedgerState → PictureState → Bool
is_same_state Open state = is_open state
is_same_state InRecovery state = is_in_recovery state
is_same_state (Closed end) state = option_map_or (λ other. other == end) (end_of_state state) false

-- the member of this index is the bookie of this index
abbrev pub is_same_member : List (List ℕ) → List (List ℕ) → List ℕ → ℕ → Bool
is_same_member names members bookies i =
    option_map_or
    (λ member. option_map_or
    (λ bookie. option_map_or (λ found. found == bookie) (bookie_named names member) false)
    (slice_get bookies i) false)
    (slice_get members i) false

abbrev pub are_same_members : List (List ℕ) → List (List ℕ) → List ℕ → Bool
are_same_members names members bookies =
    (length bookies == length members)
    && list_all (is_same_member names members bookies) (range_with_len 0 (length members))

abbrev pub is_same_fragment : List (List ℕ) → Fragment → PictureFragment → Bool
is_same_fragment names fragment other =
    (other.first == fragment.first) && are_same_members names fragment.ensemble other.ensemble

abbrev pub is_same_fragment_at : List (List ℕ) → List Fragment → List PictureFragment → ℕ → Bool
is_same_fragment_at names fragments others i =
    option_map_or
    (λ fragment. option_map_or (is_same_fragment names fragment) (slice_get others i) false)
    (slice_get fragments i) false

abbrev pub are_same_fragments : List (List ℕ) → List Fragment → List PictureFragment → Bool
are_same_fragments names fragments others =
    (length others == length fragments)
    && list_all (is_same_fragment_at names fragments others) (range_with_len 0 (length fragments))

-- the picture's ledger has the line's id, sizes, state, version (0, where none is told) and fragments
abbrev pub has_metadata : List (List ℕ) → LedgerLine → Ledger → Bool
has_metadata names line g =
    (g.id == line.id)
    && (g.metadata.size == line.sizes.ensemble)
    && (g.metadata.write_quorum == line.sizes.write_quorum)
    && (g.metadata.ack_quorum == line.sizes.ack_quorum)
    && is_same_state line.state g.metadata.state
    && (g.metadata.version == unwrap_or line.version 0)
    && are_same_fragments names line.fragments g.metadata.fragments

-- Entries

-- what the line tells of the bookie
abbrev pub content_of : LedgerLine → List ℕ → Option Content
content_of line name = find (λ content. bytes_eq content.bookie name) line.contents

-- one past the last entry that the picture may show: where the ledger ends, if it is closed, or one past the greatest
-- entry that a bookie is told or assumed to hold
abbrev pub bound_of : LedgerLine → ℕ
bound_of line = max (unwrap_or (end_of line.state) (last_first line)) (end_told line.contents)

-- the entries of a fragment: up to the next one, or up to the bound
abbrev pub entries_of : LedgerLine → ℕ → List ℕ
entries_of line f =
    range_with_len (first_of line f)
    (option_map_or (λ next. next.first) (slice_get line.fragments (f + 1)) (bound_of line) - first_of line f)

-- the index of the bookie of that name in an ensemble
abbrev pub index_in : List (List ℕ) → List ℕ → Option ℕ
index_in ensemble name = position (bytes_eq name) ensemble

-- how the fragment writes entries to that bookie
abbrev pub striping_of : LedgerLine → ℕ → List ℕ → Striping
striping_of line f name = record {
  sizes = line.sizes;
  stop = stop_of line f;
  index = index_in (ensemble_of line f) name;
}

-- what the picture lists of a bookie and a ledger
abbrev pub holding_of : List Holding → ℕ → ℕ → Option Holding
holding_of holdings bookie ledger = find (λ h. (h.bookie == bookie) && (h.ledger == ledger)) holdings

abbrev pub ranges_in : Option Holding → List (ℕ × ℕ)
ranges_in holding = option_map_or (λ h. h.ranges) holding []

abbrev pub is_below : ℕ → ℕ × ℕ → Bool
is_below bound range = nat_lt range.1 bound

abbrev pub is_held : Option Holding → ℕ → Bool
is_held holding entry = option_map_or (λ h. list_any (is_within entry) h.ranges) holding false

abbrev pub is_marked : Option Holding → Bool
is_marked holding = option_map_or (λ h. h.is_assumed) holding false

-- the picture shows of the entry what it is to show, and where that is an assumption, it is marked as one
abbrev pub shows_entry : Rules → Striping → Option Content → Option Holding → ℕ → Bool
shows_entry rules striping content holding entry =
    option_map_or (beq (is_held holding entry)) (shown rules striping content entry) false
    && (is_marked holding || is_sure striping content entry)

abbrev pub shows_fragment : Rules → LedgerLine → List ℕ → Option Holding → ℕ → Bool
shows_fragment rules line name holding f =
    list_all (shows_entry rules (striping_of line f name) (content_of line name) holding) (entries_of line f)

abbrev pub show_fragments : Rules → LedgerLine → List ℕ → Option Holding → Bool
show_fragments rules line name holding =
    list_all (shows_fragment rules line name holding) (range_with_len 0 (length line.fragments))

-- whether an ensemble of the ledger has the bookie as a member
abbrev pub is_member : LedgerLine → List ℕ → Bool
is_member line name = list_any (λ (fragment : Fragment). is_some (index_in fragment.ensemble name)) line.fragments

-- whether the line names the bookie: as a member, or in a content
abbrev pub names_bookie : LedgerLine → List ℕ → Bool
names_bookie line name = is_member line name || is_some (content_of line name)

-- nothing is listed past the bound
abbrev pub ends_below : ℕ → Option Holding → Bool
ends_below bound holding = option_map_or (λ h. list_all (is_below bound) h.ranges) holding true

-- of the bookie of that name: there is a list just where the line names the bookie, and it shows each entry
abbrev pub shows_content : Rules → LedgerLine → List ℕ → Option Holding → Bool
shows_content rules line name holding =
    if names_bookie line name
    then is_some holding && ends_below (bound_of line) holding && show_fragments rules line name holding
    else is_none holding

abbrev pub shows_content_at : Head → Assume → LedgerLine → List (List ℕ) → List Holding → ℕ → Bool
shows_content_at head assume line names holdings i =
    option_map_or
    (λ name. shows_content (rules_for head assume name) line name (holding_of holdings i line.id))
    (slice_get names i) false

-- Ledgers

-- whether a content speaks of all entries, as somebody told it
abbrev pub tells_all : Content → Bool
tells_all content = is_none content.told && not content.is_assumed && not (is_lacking content.entries)

abbrev pub is_told_of : LedgerLine → List ℕ → Bool
is_told_of line name = option_map_or tells_all (content_of line name) false

abbrev pub is_nothing : Assume → Bool
is_nothing kind.Nothing = true
is_nothing kind.Held = false
is_nothing kind.Empty = false

abbrev pub is_known : Head → Assume → LedgerLine → List ℕ → Bool
is_known head assume line name = not (is_nothing (rules_for head assume name).assume) || is_told_of line name

abbrev pub last_members : LedgerLine → List (List ℕ)
last_members line = ensemble_of line (length line.fragments - 1)

-- Of a ledger that isn't closed nobody knows how many entries there are. Of each member of its last fragment it is told
-- what it holds, or something is assumed.
abbrev pub knows_tail : Head → Assume → LedgerLine → Bool
knows_tail head assume line =
    is_some (end_of line.state)
    || list_all (is_known head assume line) (last_members line)

-- the first of these members of which neither is so
abbrev pub first_unknown_of : Head → Assume → LedgerLine → List (List ℕ) → Option (List ℕ)
first_unknown_of head assume line members = find (λ name. not (is_known head assume line name)) members

-- that of the members of the last fragment, if the ledger isn't closed
abbrev pub first_unknown : Head → Assume → LedgerLine → Option (List ℕ)
first_unknown head assume line =
    if is_some (end_of line.state) then None else first_unknown_of head assume line (last_members line)

-- each bookie of which the line tells is in the picture
abbrev pub has_bookies : List (List ℕ) → List Content → Bool
has_bookies names contents = list_all (λ (c : Content). is_some (bookie_named names c.bookie)) contents

abbrev pub show_contents : Head → Assume → LedgerLine → List (List ℕ) → List Holding → Bool
show_contents head assume line names holdings =
    list_all (shows_content_at head assume line names holdings) (range_with_len 0 (length names))

abbrev pub shows_ledger : Head → Assume → List (List ℕ) → List Holding → LedgerLine → Ledger → Bool
shows_ledger head assume names holdings line g =
    has_metadata names line g
    && nat_le (bound_of line) ENTRY_END
    && knows_tail head assume line
    && has_bookies names line.contents
    && show_contents head assume line names holdings

abbrev pub shows_ledger_at : Head → Assume → List (List ℕ) → List Holding → List LedgerLine → List Ledger → ℕ → Bool
shows_ledger_at head assume names holdings lines ledgers i =
    option_map_or
    (λ line. option_map_or (shows_ledger head assume names holdings line) (slice_get ledgers i) false)
    (slice_get lines i) false

-- one after the other
abbrev pub shows_ledgers : Head → Assume → List (List ℕ) → List Holding → List LedgerLine → List Ledger → Bool
shows_ledgers head assume names holdings lines ledgers =
    (length ledgers == length lines)
    && list_all (shows_ledger_at head assume names holdings lines ledgers) (range_with_len 0 (length lines))

-- A picture that lists this, and shows that cluster, has the first line's grace, delay and bookies, and these ledgers.
pub record IsShown (head : Head) (lines : List LedgerLine) (assume : Assume) (listed : Listed) (cluster : Cluster) : Type 0 where
  pub grace : cluster.grace ≡ head.grace
  pub delay : cluster.delay ≡ head.delay
  pub bookies : shows_bookies head listed.listing.names listed.listing.lost_at.items listed.marks.items ≡ true
  pub ledgers : shows_ledgers head assume listed.listing.names listed.listing.holdings.items lines
      listed.listing.ledgers.items ≡ true

-- The text is such a picture, and no line says that a bookie holds entries which came back without its disk.
pub record IsCut (head : Head) (lines : List LedgerLine) (assume : Assume) (text : List ℕ) : Type 0 where
  pub listed : Listed
  pub cluster : Cluster
  pub lists : Lists text listed
  pub is_picture : picture_of text ≡ Ok cluster
  pub shown : IsShown head lines assume listed cluster
  pub empties : list_all (keeps_empties head) lines ≡ true
