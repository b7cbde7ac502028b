-- Contents of bookies that came back without their disks.
use Rattle.std.specs.Prelude.{ℕ, Bool, true, ◌&&◌, nat_lt, List, length}
use Rattle.reh_census.specs.declared.bookies.Bookie.{Bookie}
use Rattle.reh_census.specs.Bookies.{bookies_of}
use Rattle.reh_inventory.specs.declared.contents.Content.{Content}
use Rattle.reh_inventory.specs.declared.contents.Entries.{Entries}
use Rattle.reh_inventory.specs.declared.contents.Entries.TheVariants.{Holds, Lacks}
use Rattle.reh_inventory_census.specs.Counted.{number_in}

-- whether it is said that a bookie holds entries: some, or all that are striped onto it but for these
abbrev pub holds_any : Entries → Bool
holds_any (Holds ranges) = nat_lt 0 (length ranges)
holds_any (Lacks ranges) = true

-- whether it is said of a bookie that is shown as empty
abbrev pub holds_though_empty : List (List ℕ) → List Bookie → Content → Bool
holds_though_empty names bookies content =
    (bookies_of bookies).is_empty (number_in names content.bookie) && holds_any content.entries
