-- Those of the tails that are passed.
use Rattle.std.proofs.Common.{◌≡◌, ◌&&◌, Bool, All, take}
use Rattle.reh_census.specs.Bookies.{is_flagged}
use Rattle.reh_census.specs.Counting.{count_tails_in}
use Rattle.reh_census.specs.Tails.{IsTail}
use Rattle.reh_census.specs.declared.censuses.Tail.{Tail}
use Rattle.reh_waves.specs.Near.{names_tail}
use Rattle.reh_waves.proofs.near.tails_near.Given as goal

abbrev pub invariant-loop-counted : goal.invariant-loop-counted
invariant-loop-counted l = record {
  counts : (test : Tail → Bool)
      → count_tails_in l.near.items test
      ≡ count_tails_in (take l.counted-index l.tails) (λ tail. test tail && names_tail (is_flagged l.among) tail);
  well_formed : All (λ t. IsTail t.tail) l.near.items;
}
