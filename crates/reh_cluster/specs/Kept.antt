-- What `Parts` stands for.
use Rattle.std.specs.Prelude.{◌≤◌}
use Rattle.reh_types.specs.declared.limits.TheConstants.{MAX_BOOKIES}
use Rattle.reh_cluster.specs.Parts.{PartsValue, HasRows}
use Rattle.reh_cluster.specs.declared.parts.Parts.TheInside.{Inside}

abbrev pub parts_in : Inside → PartsValue
parts_in p = record {
  bookies = p.held.bookies;
  parts = record { lost_at = p.lost_at.items; ledgers = p.ledgers.items; held = p.held.contents; scalars = p.scalars };
}

-- the bookies are no more than there can be, and the rows go with the ledgers
pub record IsParts (p : Inside) : Type 0 where
  pub few : p.held.bookies ≤ MAX_BOOKIES
  pub rows : HasRows p.held.bookies p.ledgers.items p.held
