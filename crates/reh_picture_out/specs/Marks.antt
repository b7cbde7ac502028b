-- Which marks a picture of a cluster has, after a picture that a rehearsal began with.
use Rattle.std.specs.Prelude.{◌≡◌, ℕ, All, Bool, true, false, not, ◌&&◌, nat_eq, nat_lt, List, map, length, None, unwrap_or, slice_get}
use Rattle.std.specs.List.{list_any, range_with_len}
use Rattle.reh_model.specs.Contents.{count_held}
use Rattle.reh_model.specs.Cluster.{Cluster}
use Rattle.reh_picture.specs.declared.listings.Listed.{Listed}
use Rattle.reh_picture.specs.Contents.{Holding}
use Rattle.reh_picture.specs.Listings.{Lists}
use Rattle.reh_picture.specs.Marks.{BookieMarks}

-- Bookies

abbrev pub no_marks : BookieMarks
no_marks = record { is_read_only = false; is_empty = false; rack = None }

-- the marks of a bookie, none where there is no such bookie
abbrev pub marks_at : List BookieMarks → ℕ → BookieMarks
marks_at marks bookie = unwrap_or (slice_get marks bookie) no_marks

-- A bookie that came back without its disk is no more marked so once it holds an entry. The other marks stay.
abbrev pub kept_marks : Cluster → List BookieMarks → ℕ → BookieMarks
kept_marks s marks bookie =
    let was = marks_at marks bookie in
    record was { is_empty = was.is_empty && nat_eq (count_held s.parts.held bookie) 0 }

-- Contents

-- whether there is a content of the bookie for the ledger
abbrev pub is_told : List Holding → ℕ → ℕ → Bool
is_told told bookie ledger = list_any (λ h. nat_eq h.bookie bookie && nat_eq h.ledger ledger) told

-- whether there is none for it, and none of these entries that it holds
abbrev pub lacks_content : List Holding → ℕ → ℕ → List (ℕ × ℕ) → Bool
lacks_content told bookie ledger ranges = nat_eq (length ranges) 0 && not (is_told told bookie ledger)

-- whether some content of the ledger is assumed
abbrev pub has_assumed : List Holding → ℕ → Bool
has_assumed told ledger = list_any (λ h. h.is_assumed && nat_eq h.ledger ledger) told

-- Pictures

-- whether the cluster has such a bookie and such a ledger
abbrev pub is_there : Cluster → ℕ → ℕ → Bool
is_there s bookie ledger = nat_lt bookie (length s.names) && list_any (λ g. nat_eq g.id ledger) s.parts.ledgers

-- The new picture has the marks of the old one's bookies that stay, and all contents of a ledger are assumed where one of
-- them was. Where the old one had a content, it has one; any other has an entry.
pub record KeepsMarks (s : Cluster) (old new : Listed) : Type 0 where
  pub bookies : new.marks.items ≡ map (kept_marks s old.marks.items) (range_with_len 0 (length s.names))
  pub contents :
      All (λ h. h.is_assumed ≡ has_assumed old.listing.holdings.items h.ledger) new.listing.holdings.items
  pub told : (b l : ℕ) → is_there s b l ≡ true → is_told old.listing.holdings.items b l ≡ true
      → is_told new.listing.holdings.items b l ≡ true
  pub needed :
      All (λ h. lacks_content old.listing.holdings.items h.bookie h.ledger h.ranges ≡ false) new.listing.holdings.items

-- whatever these bytes list as a picture
abbrev pub KeepsMarksIn : Cluster → Listed → List ℕ → Type 0
KeepsMarksIn s old bytes = (new : Listed) → Lists bytes new → KeepsMarks s old new
