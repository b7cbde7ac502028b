-- What a plan comes to.
use Rattle.std.specs.Prelude.{◌≡◌, ℕ, ◌-◌, ◌==◌, ◌&&◌, Bool, false, not, List, [], ◌∷◌, ◌++◌, map, flat_map, length, count_by, sum_by}
use Rattle.std.specs.Prelude.{bytes_eq, unwrap_or, codes, if◌then◌else◌}
use Rattle.std.specs.List.{range_with_len}
use Rattle.std.specs.Fmt.{decimal}
use Rattle.reh_types.specs.declared.moves.Event.{Event}
use Rattle.reh_types.specs.declared.moves.Event.TheVariants.{Roll, Swap}
use Rattle.reh_model.specs.Contents.{count_held}
use Rattle.reh_model.specs.Cluster.{Cluster}
use Rattle.reh_model.specs.Survey.{survey}
use Rattle.reh_commands.specs.Texts.{name_of, spaced}
use Rattle.reh_plan.specs.Ends.{says_full}
use Rattle.reh_plan.specs.Plans.{Draft, is_left}
use Rattle.reh_plan.specs.Reasons.{kind_of, kinds}
use Rattle.reh_plan.specs.declared.planning.Planned.{Planned}
use Rattle.reh_plan.specs.declared.reasons.Left.{Left}
use Rattle.reh_plan.specs.declared.summaries.Share.{Share}
use Rattle.reh_plan.specs.declared.summaries.Summary.{Summary}

-- whether the bookie takes a place by the event
abbrev pub is_place_of : ℕ → Event → Bool
is_place_of bookie (Swap worker ledger fragment index version) = worker == bookie
is_place_of bookie (Roll ledger index taker) = taker == bookie
is_place_of bookie other = false

-- how many places the bookie takes by these events
abbrev pub places_of : List Event → ℕ → ℕ
places_of events bookie = count_by (is_place_of bookie) events

-- how many entries each bookie holds
abbrev pub holdings_of : Cluster → List ℕ
holdings_of s = map (λ bookie. count_held s.parts.held bookie) (range_with_len 0 (length s.names))

-- what a bookie is given: the places that it takes, and the entries that it holds more in the end
abbrev pub share_of : Draft → ℕ → Share
share_of d bookie = record {
  bookie = bookie;
  places = places_of d.events bookie;
  entries = count_held d.state.parts.held bookie - count_held d.opening.parts.held bookie;
}

-- how many ledgers are left
abbrev pub left_of : Cluster → ℕ
left_of s = count_by (is_left s) s.parts.ledgers

-- how many entries can't be read, of all fragments that have a stop
abbrev pub unreadable_of : Cluster → ℕ
unreadable_of s = sum_by (λ line. unwrap_or line.lost 0) (survey s)

-- that is what the plan comes to
pub record IsSum (d : Draft) (summary : Summary) : Type 0 where
  pub shares : summary.shares.items ≡ map (share_of d) (range_with_len 0 (length d.opening.names))
  pub left : summary.left ≡ left_of d.state
  pub unreadable : summary.unreadable ≡ unreadable_of d.state
  pub full : summary.is_full ≡ says_full d.lines

-- whether nothing is left, each entry can be read, and the script isn't full
abbrev pub is_whole : Summary → Bool
is_whole summary = (summary.left == 0) && ((summary.unreadable == 0) && not summary.is_full)

-- Texts

-- the line of a bookie that is given something
abbrev pub share_text : List (List ℕ) → Share → List ℕ
share_text names share =
    if (share.places == 0) && (share.entries == 0) then []
    else (spaced (codes "bookie" ∷ name_of names share.bookie ∷ codes "places" ∷ decimal share.places ∷ codes "entries"
    ∷ decimal share.entries ∷ []) ++ codes "\n")

-- whether a ledger is left for a reason of that kind
abbrev pub is_kind : List ℕ → Left → Bool
is_kind kind left = bytes_eq (kind_of left.reason) kind

-- the line that says how many of these ledgers are, if some are
abbrev pub kind_text : List Left → List ℕ → List ℕ
kind_text left kind =
    if count_by (is_kind kind) left == 0 then []
    else (codes "left: " ++ (kind ++ (codes " " ++ (decimal (count_by (is_kind kind) left) ++ codes "\n"))))

-- these lines of all kinds
abbrev pub kinds_text : List Left → List ℕ
kinds_text left = flat_map (kind_text left) kinds

-- how many ledgers are left, and how many of them for each kind of reason
abbrev pub left_text : ℕ → List Left → List ℕ
left_text count left = (codes "ledgers left " ++ (decimal count ++ codes "\n")) ++ kinds_text left

-- that the script is full, if it is
abbrev pub full_text : Bool → List ℕ
full_text is_full = if is_full then codes "the script is full: plan again after it\n" else []

-- how many fragments are in fewer racks, if some are
abbrev pub fewer_text : ℕ → List ℕ
fewer_text fewer = if fewer == 0 then [] else (codes "fragments in fewer racks " ++ (decimal fewer ++ codes "\n"))

-- how many entries are lost; then that the script is full, if it is, and how many fragments are in fewer racks, if some are
abbrev pub rest_text : Summary → ℕ → List ℕ
rest_text summary fewer =
    codes "entries lost " ++ (decimal summary.unreadable ++ (codes "\n" ++ (full_text summary.is_full ++ fewer_text fewer)))

-- what a plan comes to
abbrev pub plan_text : Planned → List ℕ
plan_text p =
    (flat_map (share_text p.plan.state.names) p.summary.shares.items ++ left_text p.summary.left p.left.items)
    ++ rest_text p.summary (length p.fewer.items)
