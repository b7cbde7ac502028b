-- The JSON that is written of a cluster.
use Rattle.std.specs.Prelude.{◌≡◌, ℕ, zero, ◌-◌, ◌≤◌, ◌==◌, negsuc, Bool, true, false, if◌then◌else◌, List, [], map, codes, length}
use Rattle.std.specs.Prelude.{All, Option, None, Some, unwrap_or, slice_get}
use Rattle.std.specs.List.{range_with_len}
use Rattle.serde_json.specs.Data.{Num, unsigned, negative, Data, boolean, number, string, array, object, Items, no_items}
use Rattle.serde_json.specs.Data.{item, Members, member, no_members, items_depth}
use Rattle.serde_json.specs.View.{items_of}
use Rattle.reh_types.specs.declared.names.LedgerState.{LedgerState}
use Rattle.reh_types.specs.declared.names.LedgerState.TheVariants.{Open, InRecovery, Closed}
use Rattle.reh_model.specs.Metadata.{Metadata, Fragment}
use Rattle.reh_model.specs.Cluster.{Cluster, Ledger, is_up}
use Rattle.reh_fields.specs.declared.fields.Field.TheVariants as field
use Rattle.reh_fields.specs.Members.{mark_of, number_of}
use Rattle.reh_picture.specs.Contents.{Holding, holding_in, held_in}
use Rattle.reh_picture.specs.Marks.{BookieMarks}
use Rattle.reh_picture_out.specs.Marks.{kept_marks, is_told, lacks_content, has_assumed, is_there}

-- Bookies

-- the name of a bookie, empty where there is no such bookie
abbrev pub name_at : List (List ℕ) → ℕ → List ℕ
name_at names bookie = unwrap_or (slice_get names bookie) []

-- a rack, where there is one, before what comes after it
abbrev pub rack_member : Option (List ℕ) → Members → Members
rack_member None rest = rest
rack_member (Some rack) rest = member (codes "rack") (string rack) rest

abbrev pub bookie_data : List ℕ → Bool → BookieMarks → Data
bookie_data name up marks =
    object
    (member (codes "empty") (boolean marks.is_empty)
    (member (codes "name") (string name)
    (rack_member marks.rack
    (member (codes "readOnly") (boolean marks.is_read_only) (member (codes "up") (boolean up) no_members)))))

-- with the marks that stay
abbrev pub bookie_data_at : Cluster → List BookieMarks → ℕ → Data
bookie_data_at s marks bookie = bookie_data (name_at s.names bookie) (is_up s bookie) (kept_marks s marks bookie)

abbrev pub bookies_data : Cluster → List BookieMarks → List Data
bookies_data s marks = map (bookie_data_at s marks) (range_with_len 0 (length s.names))

-- Ledgers

abbrev pub member_data : List (List ℕ) → ℕ → Data
member_data names bookie = string (name_at names bookie)

abbrev pub members_data : List (List ℕ) → List ℕ → List Data
members_data names members = map (member_data names) members

abbrev pub fragment_data : List (List ℕ) → Fragment → Data
fragment_data names fragment =
    object
    (member (codes "ensemble") (array (items_of (members_data names fragment.ensemble)))
    (member (codes "firstEntry") (number (unsigned fragment.first)) no_members))

abbrev pub fragments_data : List (List ℕ) → List Fragment → List Data
fragments_data names fragments = map (fragment_data names) fragments

-- one less than the end, -1 at end 0
abbrev pub last_number : ℕ → Num
last_number end = if end == 0 then negative (negsuc zero) else unsigned (end - 1)

-- the last entry id, -1 unless the ledger is closed
abbrev pub last_data : LedgerState → Data
last_data Open = number (negative (negsuc zero))
last_data InRecovery = number (negative (negsuc zero))
last_data (Closed end) = number (last_number end)

abbrev pub state_text : LedgerState → List ℕ
state_text Open = codes "OPEN"
state_text InRecovery = codes "IN_RECOVERY"
state_text (Closed end) = codes "CLOSED"

abbrev pub metadata_data : ℕ → Metadata → Items → Data
metadata_data id m fragments =
    object
    (member (codes "ackQuorumSize") (number (unsigned m.ack_quorum))
    (member (codes "ensembleSize") (number (unsigned m.size))
    (member (codes "fragments") (array fragments)
    (member (codes "id") (number (unsigned id))
    (member (codes "lastEntryId") (last_data m.state)
    (member (codes "state") (string (state_text m.state))
    (member (codes "version") (number (unsigned m.version))
    (member (codes "writeQuorumSize") (number (unsigned m.write_quorum)) no_members))))))))

abbrev pub ledger_data : List (List ℕ) → Ledger → Data
ledger_data names g = metadata_data g.id g.metadata (items_of (fragments_data names g.metadata.fragments))

abbrev pub ledgers_data : List (List ℕ) → List Ledger → List Data
ledgers_data names ledgers = map (ledger_data names) ledgers

-- Contents

abbrev pub range_data : ℕ × ℕ → Data
range_data range = array (item (number (unsigned range.0)) (item (number (unsigned range.1)) no_items))

-- what a bookie holds of a ledger, assumed or told
abbrev pub content_data : Bool → List ℕ → ℕ → List (ℕ × ℕ) → Data
content_data assumed name ledger ranges =
    object
    (member (codes "assumed") (boolean assumed)
    (member (codes "bookie") (string name)
    (member (codes "entries") (array (items_of (map range_data ranges)))
    (member (codes "ledger") (number (unsigned ledger)) no_members))))

-- a content that is assumed where one of its ledger was
abbrev pub IsMarked : List Holding → Data → Type 0
IsMarked told d = mark_of d field.Assumed ≡ has_assumed told (number_of d field.Ledger)

-- a content that has an entry, or of a bookie and a ledger that had one
abbrev pub IsNeeded : List (List ℕ) → List Holding → Data → Type 0
IsNeeded names told d = let h = holding_in names d in lacks_content told h.bookie h.ledger h.ranges ≡ false

-- These contents, read, are what a cluster's bookies hold, and have the marks that stay; there is one for what was told, and
-- any other has an entry.
pub record AreContents (s : Cluster) (told : List Holding) (contents : List Data) : Type 0 where
  pub held_are : held_in (map (holding_in s.names) contents) ≡ s.parts.held
  pub again : (b l : ℕ) → is_there s b l ≡ true → is_told told b l ≡ true
      → is_told (map (holding_in s.names) contents) b l ≡ true
  pub needed : All (IsNeeded s.names told) contents
  pub marked : All (IsMarked told) contents
  pub flat : items_depth (items_of contents) ≤ 3

-- Pictures

-- of the first format, which has no delay
abbrev pub first_data : ℕ → List Data → List Data → List Data → Data
first_data grace bookies ledgers contents =
    object
    (member (codes "bookies") (array (items_of bookies))
    (member (codes "contents") (array (items_of contents))
    (member (codes "format") (number (unsigned 1))
    (member (codes "grace") (number (unsigned grace))
    (member (codes "ledgers") (array (items_of ledgers)) no_members)))))

-- of the format that has one
abbrev pub delayed_data : ℕ → ℕ → List Data → List Data → List Data → Data
delayed_data delay grace bookies ledgers contents =
    object
    (member (codes "bookies") (array (items_of bookies))
    (member (codes "contents") (array (items_of contents))
    (member (codes "format") (number (unsigned 2))
    (member (codes "grace") (number (unsigned grace))
    (member (codes "ledgers") (array (items_of ledgers))
    (member (codes "lostDelayTicks") (number (unsigned delay)) no_members))))))

abbrev pub written_data : ℕ → ℕ → List Data → List Data → List Data → Data
written_data delay grace bookies ledgers contents =
    if delay == 0 then first_data grace bookies ledgers contents else delayed_data delay grace bookies ledgers contents

-- the picture of a cluster with these marks and contents
abbrev pub picture_data : Cluster → List BookieMarks → List Data → Data
picture_data s marks contents =
    written_data s.delay s.grace (bookies_data s marks) (ledgers_data s.names s.parts.ledgers) contents

-- The value is the picture of the cluster after a picture with these marks and holdings, with contents that say what is
-- held.
pub record IsPicture (s : Cluster) (marks : List BookieMarks) (told : List Holding) (d : Data) : Type 0 where
  pub contents : List Data
  pub data_is : d ≡ picture_data s marks contents
  pub are_contents : AreContents s told contents
