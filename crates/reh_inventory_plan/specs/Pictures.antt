-- The plan for a picture, whose bookies are asked for by name.
use Rattle.std.specs.Prelude.{◌≡◌, ℕ, Bool, true, false, ◌&&◌, List, Some, Ok, length, map, nat_lt, slice_get, take}
use Rattle.std.specs.Option.{option_map_or}
use Rattle.reh_types.specs.declared.limits.TheConstants.{MAX_BOOKIES}
use Rattle.reh_types.specs.Sets as set
use Rattle.reh_types.specs.Sets.{Set, numbers}
use Rattle.reh_model.specs.Cluster.{Cluster}
use Rattle.reh_model.specs.Session.{replay}
use Rattle.reh_picture.specs.Listings.{Lists}
use Rattle.reh_picture.specs.Marks.{BookieMarks}
use Rattle.reh_picture.specs.Pictures.{picture_of}
use Rattle.reh_picture.specs.declared.listings.Listed.{Listed}
use Rattle.reh_plan.specs.Ends.{Ends, IsHarmless}
use Rattle.reh_plan.specs.Needed.{AreNeeded}
use Rattle.reh_plan.specs.Plans.{AreLeft, Asks, GoesOnBy, IsWithout, losses_of}
use Rattle.reh_plan.specs.Racks.{Racks, fewer_racks, lines_before, racks_named}
use Rattle.reh_plan.specs.Summaries.{IsSum}
use Rattle.reh_plan.specs.Takers.{AreWellTaken}
use Rattle.reh_plan.specs.Workers.{may_work, rules_by}
use Rattle.reh_plan.specs.declared.planning.Planned.{Planned}
use Rattle.reh_inventory_plan.specs.Asked.{passes}
use Rattle.reh_inventory_plan.specs.declared.asked.Asked.{Asked}
use Rattle.reh_inventory_plan.specs.declared.pictures.Part.{Part}

-- in which racks the bookies stand, by the marks of as many as there can be
abbrev pub racks_of : List BookieMarks → ℕ → Racks
racks_of marks least = racks_named (map (λ m. m.rack) (take MAX_BOOKIES marks)) least

-- whether the flag of that number is there and set
abbrev pub is_flagged : List Bool → ℕ → Bool
is_flagged flags b = option_map_or (λ flag. flag) (slice_get flags b) false

-- the same of a number that a bookie can have
abbrev pub is_set : List Bool → ℕ → Bool
is_set flags b = nat_lt b MAX_BOOKIES && is_flagged flags b

-- whether the bookie of that number has a name that passes
abbrev pub is_named : List (List ℕ) → (List ℕ → Bool) → ℕ → Bool
is_named names pass b = option_map_or pass (slice_get names b) false

-- what is asked of bookies with these names and marks: who is lost, who may work, who is read-only, and the racks
pub record IsPartOf (asked : Asked) (names : List (List ℕ)) (marks : List BookieMarks) (part : Part) : Type 0 where
  pub lost : (b : ℕ) → set.contains part.lost b ≡ is_set (map (passes asked.lost false) names) b
  pub allowed : (b : ℕ) → set.contains part.allowed b ≡ is_set (map (passes asked.allowed true) names) b
  pub read_only : (b : ℕ) → set.contains part.read_only b ≡ is_set (map (λ m. m.is_read_only) marks) b
  pub racks : part.racks ≡ racks_of marks asked.min_racks

-- the promises of a plan for the cluster, as far as an account of it needs them
pub record IsPlan (state : Cluster) (part : Part) (writers_roll : Bool) (p : Planned) : Type 0 where
  pub opening : p.plan.opening ≡ state
  pub asks : Asks state.names p.plan.lines p.plan.events
  pub accepted : replay state p.plan.events ≡ Some p.plan.state
  pub without : IsWithout state (set.contains part.lost) p.plan.state
  pub order : GoesOnBy (rules_by part.allowed part.read_only writers_roll)
      (losses_of state (set.contains part.lost) (length state.names)) p.plan.events
  pub places : AreWellTaken (may_work (rules_by part.allowed part.read_only writers_roll)) part.racks state p.plan.events
  pub left : AreLeft (rules_by part.allowed part.read_only writers_roll) state.names p.plan.state
      (lines_before p.fewer.items p.plan.lines) p.left.items
  pub ends : Ends (rules_by part.allowed part.read_only writers_roll) p.plan.state (lines_before p.fewer.items p.plan.lines)
  pub harmless : IsHarmless state p.plan.state
  pub needed : AreNeeded (lines_before p.fewer.items p.plan.lines) p.plan.events
  pub racks : p.fewer.items ≡ fewer_racks part.racks state p.plan.state
  pub sum : IsSum p.plan p.summary

-- it is a plan for the cluster, whose bookies have these marks, as it is asked for
pub record IsPlanAsked (asked : Asked) (state : Cluster) (marks : List BookieMarks) (p : Planned) : Type 0 where
  pub part : Part
  pub is_part : IsPartOf asked state.names marks part
  pub is_plan : IsPlan state part asked.writers_roll p

-- it is a plan for the picture of these bytes
pub record IsPicturePlan (asked : Asked) (text : List ℕ) (p : Planned) : Type 0 where
  pub state : Cluster
  pub shown : picture_of text ≡ Ok state
  pub listed : Listed
  pub lists : Lists text listed
  pub is_plan : IsPlanAsked asked state listed.marks.items p
