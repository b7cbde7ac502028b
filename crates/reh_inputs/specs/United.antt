-- The cluster of several inputs.
use Rattle.std.specs.Prelude.{◌≡◌, ◌<◌, ℕ, Bool, true, false, List, length, fold, None, slice_get, position, unwrap_or}
use Rattle.std.specs.Option.{is_none, option_and_then, option_map_or}
use Rattle.std.specs.Str.{bytes_eq}
use Rattle.reh_census.specs.declared.bookies.Bookie.{Bookie}
use Rattle.reh_census.specs.Striping.{range}
use Rattle.reh_census_file.specs.Values.{NamedCensus}
use Rattle.reh_picture.specs.Marks.{BookieMarks}
use Rattle.reh_picture.specs.declared.listings.Listed.{Listed}
use Rattle.reh_inputs.specs.declared.inputs.Input.{Input}
use Rattle.reh_inputs.specs.declared.inputs.Input.TheVariants.{Picture, Census}
use Rattle.reh_inputs.specs.Cluster.{Cluster, is_shown_so, no_bookies, with_bookie}
use Rattle.reh_inputs.specs.Shown.{Shown, shown_by}

-- how a picture shows the bookie of that number
abbrev pub shown_at : Listed → ℕ → Shown
shown_at l n =
    let up = option_map_or is_none (slice_get l.listing.lost_at.items n) false in
    option_map_or (λ (marks : BookieMarks). shown_by up marks.is_read_only marks.is_empty marks.rack)
    (slice_get l.marks.items n) (shown_by up false false None)

-- the cluster with that bookie
abbrev pub with_listed : Listed → Cluster → ℕ → Cluster
with_listed l cluster n =
    option_map_or (λ name. with_bookie cluster name (shown_at l n)) (slice_get l.listing.names n) cluster

-- how a census shows a bookie
abbrev pub shown_as : List (List ℕ) → Bookie → Shown
shown_as racks b =
    shown_by b.is_registered b.is_read_only b.is_empty (option_and_then (λ rack. slice_get racks rack) b.rack)

-- how a census shows the bookie of that number
abbrev pub counted_at : NamedCensus → ℕ → Shown
counted_at c n = option_map_or (shown_as c.racks) (slice_get c.bookies n) (shown_by false false false None)

-- the cluster with that bookie
abbrev pub with_counted : NamedCensus → Cluster → ℕ → Cluster
with_counted c cluster n =
    option_map_or (λ name. with_bookie cluster name (counted_at c n)) (slice_get c.names n) cluster

-- with all bookies of an input
abbrev pub with_input : Cluster → Input → Cluster
with_input cluster (Picture l) = fold (with_listed l) cluster (range 0 (length l.listing.names))
with_input cluster (Census c) = fold (with_counted c) cluster (range 0 (length c.names))

-- the cluster of inputs
abbrev pub united : List Input → Cluster
united inputs = fold with_input no_bookies inputs

-- whether the cluster shows the bookie of that number as the picture does
abbrev pub shows_listed : Cluster → Listed → ℕ → Bool
shows_listed cluster l n =
    option_map_or (λ name. is_shown_so cluster name (shown_at l n)) (slice_get l.listing.names n) true

-- and as the census does
abbrev pub shows_counted : Cluster → NamedCensus → ℕ → Bool
shows_counted cluster c n = option_map_or (λ name. is_shown_so cluster name (counted_at c n)) (slice_get c.names n) true

-- the cluster shows each bookie of the input as the input does
abbrev pub AreAlike : Cluster → Input → Type 0
AreAlike cluster (Picture l) = (n : ℕ) → n < length l.listing.names → shows_listed cluster l n ≡ true
AreAlike cluster (Census c) = (n : ℕ) → n < length c.names → shows_counted cluster c n ≡ true

-- the number of a bookie; one that the cluster doesn't have has a number past all
abbrev pub number_of : List (List ℕ) → List ℕ → ℕ
number_of names name = unwrap_or (position (bytes_eq name) names) 65535
