-- What a picture shows of one bookie and one entry, by the line of the entry's ledger in an inventory.
use Rattle.std.specs.Prelude.{ℕ, Bool, true, false, not, ◌&&◌, ◌==◌, length, nat_lt, Option, None, Some, if◌then◌else◌}
use Rattle.std.specs.List.{list_any}
use Rattle.std.specs.Option.{is_some, option_map_or, option_or}
use Rattle.reh_census.specs.Ledgers.{is_within}
use Rattle.reh_cut.specs.declared.said.Assume.{Assume}
use Rattle.reh_cut.specs.declared.said.Assume.TheVariants as assume
use Rattle.reh_cut.specs.declared.said.Rules.{Rules}
use Rattle.reh_cut.specs.declared.said.Striping.{Striping}
use Rattle.reh_inventory.specs.declared.contents.Content.{Content}
use Rattle.reh_inventory.specs.declared.contents.Entries.{Entries}
use Rattle.reh_inventory.specs.declared.contents.Entries.TheVariants.{Holds, Lacks}
use Rattle.reh_inventory.specs.declared.ledgers.Sizes.{Sizes}
use Rattle.reh_inventory_census.specs.Shown.{content_says, rest_says}
use Rattle.reh_model.specs.Metadata.{are_quorums}
use Rattle.reh_model.specs.Striping.{is_striped}

-- The fragment

-- whether the sizes keep the protocol's order of the quorums, and a picture can have them
abbrev pub are_sizes : Sizes → Bool
are_sizes sizes = are_quorums sizes.ensemble sizes.write_quorum sizes.ack_quorum

-- whether the bookie is a member of the ensemble, and the entry is striped onto it
abbrev pub is_striped_onto : Striping → ℕ → Bool
is_striped_onto s entry =
    option_map_or (λ index. is_striped entry index s.sizes.ensemble s.sizes.write_quorum) s.index false

-- whether the fragment writes the entry to the bookie: it is striped onto it, and comes before the fragment's stop, if
-- that is known
abbrev pub is_written : Striping → ℕ → Bool
is_written s entry = are_sizes s.sizes && is_striped_onto s entry && option_map_or (nat_lt entry) s.stop true

-- What the line says

-- of an entry that is written to the bookie: that it holds it, that it doesn't, or nothing
abbrev pub said_by : Bool → Bool → Bool → Option Content → ℕ → Option Bool
said_by assumes strict stops content entry =
    option_map_or (content_says strict stops entry) content (rest_says assumes strict stops)

abbrev pub said_of : Bool → Bool → Striping → Option Content → ℕ → Option Bool
said_of assumes strict s content entry = said_by assumes strict (is_some s.stop) content entry

-- whether a content lists the entry as held
abbrev pub has_entry : ℕ → Entries → Bool
has_entry entry (Holds ranges) = list_any (is_within entry) ranges
has_entry entry (Lacks ranges) = false

-- whether the bookie's content lists it
abbrev pub is_listed : Option Content → ℕ → Bool
is_listed content entry = option_map_or (λ c. has_entry entry c.entries) content false

-- What the picture shows

-- whether the line says that nothing is told of the bookie, as of a replica that a task names missing
abbrev pub is_doubted : Option Content → Bool
is_doubted content = option_map_or (λ c. option_map_or (λ ranges. length ranges == 0) c.told false) content false

-- what stands for what nobody says of the bookie, if anything does: where it is doubted, never that it holds an entry
abbrev pub stands_for : Assume → Option Content → Option Bool
stands_for assume.Nothing content = None
stands_for assume.Held content = Some (not (is_doubted content))
stands_for assume.Empty content = Some false

-- whether the bookie holds the entry: of one that is written to it, what the line says, or what stands for that; another
-- entry it holds where its content lists it
abbrev pub shown : Rules → Striping → Option Content → ℕ → Option Bool
shown rules s content entry =
    if is_written s entry then option_or (said_of rules.assumes_striped false s content entry)
    (stands_for rules.assume content)
    else Some (is_listed content entry)

-- whether that rests on no assumption
abbrev pub is_sure : Striping → Option Content → ℕ → Bool
is_sure s content entry =
    if is_written s entry then is_some (said_of false true s content entry)
    else option_map_or (λ c. not (c.is_assumed && has_entry entry c.entries)) content true
