-- What a worker finds for a place of a fragment, and when it can be posted.
use Rattle.std.specs.Prelude.{ℕ, Bool, false, not, ◌&&◌, ◌==◌, nat_eq, nat_lt, List, [], ◌∷◌, map, length, Option}
use Rattle.std.specs.Prelude.{None, Some, slice_get}
use Rattle.std.specs.List.{find, list_any, zip}
use Rattle.std.specs.Option.{option_map, option_map_or, option_and_then, option_eq}
use Rattle.std.specs.Str.{bytes_eq}
use Rattle.reh_types.specs.declared.contents.Content.{Content}
use Rattle.reh_types.specs.declared.moves.Event.{Event}
use Rattle.reh_types.specs.declared.moves.Event.TheVariants.{Copy}
use Rattle.reh_types.specs.declared.names.Aim.{Aim}
use Rattle.reh_types.specs.declared.refusals.Refusal.{Refusal}
use Rattle.reh_types.specs.declared.refusals.Refusal.TheVariants.{NoSource, SourceGone, Stale}
use Rattle.reh_model.specs.Metadata.{Metadata, Fragment, stop_of, stripe_of, writes}
use Rattle.reh_model.specs.Cluster.{Cluster, Ledger, is_source, ledger_at}
use Rattle.reh_model.specs.Checks.{reason_if, first_reason}
use Rattle.reh_model.specs.Refusals.{at_ledger, at_fragment, no_bookie, not_owner, no_place, member_up, target_down}
use Rattle.reh_model.specs.Refusals.{target_is_member}

-- Scans

-- the member of least rank in the entry's write set from which it can be copied, if there is one
abbrev pub source_of : Cluster → Ledger → Fragment → ℕ → Option ℕ
source_of s g fragment entry = find (is_source s g.id entry) (writes g.metadata fragment entry)

-- what a scan finds in a fragment that ends at the stop
abbrev pub content_of : Cluster → Aim → Ledger → Fragment → ℕ → Content
content_of s aim g fragment stop = record {
  aim = aim;
  version = g.metadata.version;
  first = fragment.first;
  stop = stop;
  ensemble = fragment.ensemble;
  sources = map (source_of s g fragment) (stripe_of g.metadata aim.fragment aim.index);
}

-- the same, of the ledger's fragment of that number, if it has a stop
abbrev pub ledger_scan : Cluster → Aim → Ledger → Option Content
ledger_scan s aim g =
    option_and_then (λ fragment. option_map (content_of s aim g fragment) (stop_of g.metadata aim.fragment))
    (slice_get g.metadata.fragments aim.fragment)

-- what a scan of an aim finds, where there is such a fragment and it has a stop
abbrev pub scan : Cluster → Aim → Option Content
scan s aim = option_and_then (ledger_scan s aim) (ledger_at s aim.ledger)

-- what a ticket asks: the worker holds the ledger's lock, and its bookie can take the place
abbrev pub aim_checks : Cluster → Aim → Ledger → List (Option Refusal)
aim_checks s aim g = not_owner aim.worker g ∷ no_place s aim.worker g aim.fragment aim.index ∷ []

-- the first reason not to give a worker a ticket for a scan
abbrev pub aim_refusal : Cluster → Aim → Option Refusal
aim_refusal s aim = first_reason (no_bookie s aim.worker ∷ at_ledger s aim.ledger (aim_checks s aim) ∷ [])

-- Posts

-- whether a ledger's fragment is as a content saw it, with a source, or none, for each striped entry
abbrev pub is_fragment_as_seen : Metadata → Content → Fragment → Bool
is_fragment_as_seen m content fragment =
    (fragment.first == content.first) && option_eq nat_eq (stop_of m content.aim.fragment) (Some content.stop)
    && bytes_eq fragment.ensemble content.ensemble && nat_lt content.aim.index m.size
    && (length content.sources == length (stripe_of m content.aim.fragment content.aim.index))

-- whether a ledger's metadata is as a content saw it: at that version, with that fragment
abbrev pub is_as_seen : Metadata → Content → Bool
is_as_seen m content =
    (m.version == content.version)
    && option_map_or (is_fragment_as_seen m content) (slice_get m.fragments content.aim.fragment) false

abbrev pub not_as_seen : Ledger → Content → Option Refusal
not_as_seen g content = reason_if (not (is_as_seen g.metadata content)) (Stale g.metadata.version)

-- why an entry can't be copied from the source that is named for it: none is named, or it is not in the entry's write
-- set, or it is no source any more
abbrev pub lost_source : Cluster → Ledger → Fragment → ℕ × Option ℕ → Option Refusal
lost_source s g fragment (entry, None) = Some (NoSource entry)
lost_source s g fragment (entry, Some b) =
    reason_if (not (list_any (λ member. member == b) (writes g.metadata fragment entry)
    && is_source s g.id entry b)) (SourceGone entry)

-- the first of these reasons, by rising entries
abbrev pub lost_sources : Cluster → Content → Ledger → Fragment → Option Refusal
lost_sources s content g fragment =
    first_reason (map (lost_source s g fragment)
    (zip (stripe_of g.metadata content.aim.fragment content.aim.index) content.sources))

-- what a post asks of a fragment that is as it was seen: the worker's bookie can still take the place, and each
-- source is one still
abbrev pub source_checks : Cluster → Content → Ledger → Fragment → List (Option Refusal)
source_checks s content g fragment =
    member_up s fragment content.aim.index ∷ target_down s content.aim.worker
    ∷ target_is_member fragment content.aim.worker
    ∷ lost_sources s content g fragment ∷ []

-- what a post asks of the ledger: its lock, its metadata as seen, and the sources
abbrev pub post_checks : Cluster → Content → Ledger → List (Option Refusal)
post_checks s content g =
    not_owner content.aim.worker g ∷ not_as_seen g content
    ∷ at_fragment g content.aim.fragment (source_checks s content g) ∷ []

-- the first reason to refuse a content that is posted
abbrev pub post_refusal : Cluster → Content → Option Refusal
post_refusal s content =
    first_reason (no_bookie s content.aim.worker ∷ at_ledger s content.aim.ledger (post_checks s content) ∷ [])

-- the event that an accepted content stands for
abbrev pub copy_of : Content → Event
copy_of content = let aim = content.aim in Copy aim.worker aim.ledger aim.fragment aim.index content.version
