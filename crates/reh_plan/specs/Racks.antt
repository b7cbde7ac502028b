-- In how many racks the copies of an entry stand, and what a plan says where they come to stand in fewer.
use Rattle.std.specs.Prelude.{ℕ, ◌+◌, ◌-◌, ◌==◌, min, max, Bool, false, not, nat_lt, nat_le, ◌&&◌, ◌||◌, List, [], ◌∷◌, ◌++◌, map, flat_map, take, length, count_by, zip}
use Rattle.std.specs.Prelude.{Option, None, Some, is_some, unwrap_or, slice_get, position, bytes_eq, codes, if◌then◌else◌}
use Rattle.std.specs.List.{filter, list_all, list_any, reduce}
use Rattle.std.specs.Fmt.{decimal}
use Rattle.std.specs.Option.{option_map_or}
use Rattle.reh_types.specs.declared.limits.TheConstants.{MAX_BOOKIES}
use Rattle.reh_model.specs.Cluster.{Cluster, Ledger}
use Rattle.reh_model.specs.Metadata.{Fragment, Metadata, with_member, writes}
use Rattle.reh_model.specs.Striping.{range}
use Rattle.reh_plan.specs.declared.fewer.FewerRacks.{FewerRacks}

-- in which rack each bookie stands, by the number of the first bookie in it, or one past all bookies where that isn't known;
-- and in how many racks the copies of an entry are to stand, if there are as many copies (BookKeeper's
-- `minNumRacksPerWriteQuorum`)
pub record Racks : Type 0 where
  pub numbers : List ℕ
  pub least : ℕ

-- whether a bookie with that rack, if it is known, stands in this one
abbrev pub is_in_rack : List ℕ → Option (List ℕ) → Bool
is_in_rack rack other = option_map_or (bytes_eq rack) other false

-- the number of a rack, if it is known, among the racks of all bookies
abbrev pub rack_number : List (Option (List ℕ)) → Option (List ℕ) → ℕ
rack_number names None = MAX_BOOKIES
rack_number names (Some rack) = unwrap_or (position (is_in_rack rack) names) MAX_BOOKIES

-- by the names of the bookies' racks, where they are known; where none is, none are asked for
abbrev pub racks_named : List (Option (List ℕ)) → ℕ → Racks
racks_named names least =
    record { numbers = map (rack_number names) names; least = if list_any is_some names then least else 0 }

-- the number of a bookie's rack; where it isn't known, a number of the bookie's own, past those of all racks
abbrev pub rack_of : Racks → ℕ → ℕ
rack_of r bookie =
    let number = unwrap_or (slice_get r.numbers bookie) MAX_BOOKIES in
    if nat_lt number MAX_BOOKIES then number else MAX_BOOKIES + bookie

-- how many different racks these are, without those that aren't known
abbrev pub count_racks : List ℕ → ℕ
count_racks [] = 0
count_racks (n ∷ ns) =
    if nat_le MAX_BOOKIES n || list_any (λ other. other == n) ns then count_racks ns else count_racks ns + 1

-- how many they are at least
abbrev pub least_racks : List ℕ → ℕ
least_racks ns = max (count_racks ns) 1

-- how many they can be at most: each that isn't known may be another one
abbrev pub most_racks : List ℕ → ℕ
most_racks ns = count_racks ns + count_by (nat_le MAX_BOOKIES) ns

-- whether a rack is among these
abbrev pub is_among : List ℕ → ℕ → Bool
is_among ns n = list_any (λ other. other == n) ns

-- whether racks that come in the place of others may be fewer, and are fewer than there are to be: some rack isn't there any more
abbrev pub may_be_fewer : ℕ → List ℕ → List ℕ → Bool
may_be_fewer least before after =
    not (list_all (is_among after) before) && nat_lt (least_racks after) (min least (most_racks before))

-- the racks of the write set of an entry
abbrev pub racks_of : Racks → Metadata → Fragment → ℕ → List ℕ
racks_of r m fragment entry = map (rack_of r) (writes m fragment entry)

-- in how many racks it stands at least
abbrev pub racks_at : Racks → Metadata → Fragment → ℕ → ℕ
racks_at r m fragment entry = least_racks (racks_of r m fragment entry)

-- whether they may be fewer than before, and are fewer than there are to be
abbrev pub is_fewer : Racks → Metadata → Fragment → Metadata → Fragment → ℕ → Bool
is_fewer r m before n after entry = may_be_fewer r.least (racks_of r m before entry) (racks_of r n after entry)

-- of the write sets of a fragment for which it is, the least such number, if there is one
abbrev pub fewest_after : Racks → Metadata → Fragment → Metadata → Fragment → Option ℕ
fewest_after r m before n after =
    reduce min (map (racks_at r n after) (filter (is_fewer r m before n after) (range 0 n.size)))

-- the fragment with which one of that number is compared: its own; of a new one the last, from whose ensemble its writer went on
abbrev pub fragment_before : Metadata → ℕ → Option Fragment
fragment_before m f = slice_get m.fragments (min f (length m.fragments - 1))

-- the same of the fragment of that number, in the metadata before and after
abbrev pub fewest_racks : Racks → Metadata → Metadata → ℕ → Option ℕ
fewest_racks r m n f =
    option_map_or
    (λ before. option_map_or (λ after. fewest_after r m before n after) (slice_get n.fragments f) None)
    (fragment_before m f) None

-- how many write sets of the fragment stand in fewer racks than are asked for, with that bookie at the index
abbrev pub lacking : Racks → Metadata → Fragment → ℕ → ℕ → ℕ
lacking r m fragment i bookie =
    count_by (λ entry. nat_lt (racks_at r m (with_member fragment i bookie) entry) (min r.least m.write_quorum))
    (range 0 m.size)

-- the same of the fragment of that number, 0 where there is none
abbrev pub lacking_at : Racks → Metadata → ℕ → ℕ → ℕ → ℕ
lacking_at r m f i bookie = option_map_or (λ fragment. lacking r m fragment i bookie) (slice_get m.fragments f) 0

-- Comments

-- a fragment of a ledger, if some write set may stand in fewer racks than before
abbrev pub fewer_at : Racks → Metadata → Ledger → ℕ → List FewerRacks
fewer_at r m g f =
    option_map_or (λ racks. record { ledger = g.id; fragment = f; racks = racks } ∷ [])
    (fewest_racks r m g.metadata f) []

-- all such fragments of a ledger, which had this metadata before
abbrev pub fewer_in : Racks → Metadata → Ledger → List FewerRacks
fewer_in r m g = flat_map (fewer_at r m g) (range 0 (length g.metadata.fragments))

-- all those of ledgers, of which each had the metadata at its place before
abbrev pub fewer_among : Racks → List Metadata → List Ledger → List FewerRacks
fewer_among r before ledgers = flat_map (λ pair. fewer_in r pair.0 pair.1) (zip before ledgers)

abbrev pub metadata_of : Cluster → List Metadata
metadata_of s = map (λ g. g.metadata) s.parts.ledgers

-- the fragments that may stand in fewer racks in t than in s, and stand in fewer than is asked for
abbrev pub fewer_racks : Racks → Cluster → Cluster → List FewerRacks
fewer_racks r s t = fewer_among r (metadata_of s) t.parts.ledgers

-- the comment that a write set of the fragment stands in so few racks
abbrev pub racks_line : FewerRacks → List ℕ
racks_line fewer =
    codes "# ledger " ++ (decimal fewer.ledger ++ (codes " fragment " ++ (decimal fewer.fragment
    ++ (codes ": a write set in " ++ (decimal fewer.racks ++ (if fewer.racks == 1 then codes " rack" else codes " racks"))))))

-- the lines before the last ones, of which there is one for each of these fragments
abbrev pub lines_before : List FewerRacks → List (List ℕ) → List (List ℕ)
lines_before fewer lines = take (length lines - length fewer) lines
