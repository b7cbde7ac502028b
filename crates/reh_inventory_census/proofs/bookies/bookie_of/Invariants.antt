-- None of the bookies so far has the name.
use Rattle.std.proofs.Common.{◌≡◌, ◌<◌, ℕ, false, get_or}
use Rattle.std.specs.Str.{bytes_eq}
use Rattle.reh_inventory.specs.declared.heads.Bookie.{Bookie}
use Rattle.reh_inventory_census.proofs.bookies.bookie_of.Given as goal

abbrev pub invariant-loop-bookie : goal.invariant-loop-bookie
invariant-loop-bookie l = (k : ℕ) (d : Bookie) → k < l.bookie-index → bytes_eq (get_or l.bookies k d).name l.name ≡ false
