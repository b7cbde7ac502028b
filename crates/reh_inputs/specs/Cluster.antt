-- The bookies of a cluster, as its inputs show them together.
use Rattle.std.specs.Prelude.{◌≡◌, ℕ, Bool, true, false, not, List, [], map, if◌then◌else◌, Option}
use Rattle.std.specs.Prelude.{position, slice_get, unwrap_or, ◌==◌}
use Rattle.std.specs.List.{insert}
use Rattle.std.specs.Option.{is_some, option_and_then, option_map_or}
use Rattle.std.specs.Str.{bytes_eq}
use Rattle.reh_census.specs.declared.bookies.Bookie.{Bookie}
use Rattle.reh_inputs.specs.Names.{place_of}
use Rattle.reh_inputs.specs.Shown.{Shown, is_in, is_like}

-- the names of the bookies, each once, in their order, and how inputs show them
pub record Cluster : Type 0 where
  pub names : List (List ℕ)
  pub shown : List Shown

abbrev pub no_bookies : Cluster
no_bookies = record { names = []; shown = [] }

abbrev pub has_bookie : Cluster → List ℕ → Bool
has_bookie cluster name = is_some (position (bytes_eq name) cluster.names)

-- how the bookie of that name is shown, if there is one
abbrev pub shown_as : Cluster → List ℕ → Option Shown
shown_as cluster name = option_and_then (slice_get cluster.shown) (position (bytes_eq name) cluster.names)

-- whether an input before shows the bookie otherwise
abbrev pub is_shown_otherwise : Cluster → List ℕ → Shown → Bool
is_shown_otherwise cluster name shown = option_map_or (λ before. not (is_like before shown)) (shown_as cluster name) false

-- whether the cluster shows the bookie of that name so
abbrev pub is_shown_so : Cluster → List ℕ → Shown → Bool
is_shown_so cluster name shown = option_map_or (λ before. is_like before shown) (shown_as cluster name) false

-- each bookie stays as it is shown
abbrev pub Keeps : Cluster → Cluster → Type 0
Keeps before after =
    (name : List ℕ) (shown : Shown) → is_shown_so before name shown ≡ true → is_shown_so after name shown ≡ true

-- the cluster with a bookie more, at the place of its name
abbrev pub with_new : Cluster → List ℕ → Shown → Cluster
with_new cluster name shown = record {
  names = insert cluster.names (place_of cluster.names name) name;
  shown = insert cluster.shown (place_of cluster.names name) shown;
}

-- the cluster with this bookie, which it may have already
abbrev pub with_bookie : Cluster → List ℕ → Shown → Cluster
with_bookie cluster name shown = if has_bookie cluster name then cluster else with_new cluster name shown

-- the bookie as a census sees it: a rack has the number of the first bookie in it
abbrev pub bookie_of : List Shown → Shown → Bookie
bookie_of all b = record {
  is_registered = b.is_registered;
  is_read_only = b.is_read_only;
  is_empty = b.is_empty;
  rack = option_and_then (λ rack. position (is_in rack) all) b.rack;
}

abbrev pub bookies_of : Cluster → List Bookie
bookies_of cluster = map (bookie_of cluster.shown) cluster.shown

-- the name of the rack of a bookie, empty where it isn't known
abbrev pub rack_name : Shown → List ℕ
rack_name b = unwrap_or b.rack []

-- whether the bookie of that number is the first in its rack
abbrev pub is_first_in_rack : List Shown → ℕ → Bool
is_first_in_rack all number =
    option_map_or
    (λ (b : Shown). option_map_or (λ rack. option_map_or (λ place. place == number) (position (is_in rack) all) false) b.rack false)
    (slice_get all number) false
