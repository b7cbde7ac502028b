-- Which list of changes a record stands for.
use Rattle.std.specs.Prelude.{List, [], ◌∷◌}
use Rattle.reh_model.specs.Places.{Change}
use Rattle.reh_cluster.specs.declared.changes.Kept.{Kept}
use Rattle.reh_cluster.specs.declared.changes.Kept.TheVariants.{One, Many}

abbrev pub changes_in : Kept → List Change
changes_in (One change) = change ∷ []
changes_in (Many list) = list.items
