use Rattle.std.proofs.Common.{◌∷◌, ◌++◌, [], ℕ, subst, sym, arith}
use Rattle.reh_census.specs.Bookies.{bookies_of}
use Rattle.reh_census.specs.Counting.{count_tails_in}
use Rattle.reh_waves.specs.Fewest.{IsLeastSpare}
use Rattle.reh_waves.proofs.SpareLaws.{spare-counted, spare-uncounted}
use Rattle.reh_waves.proofs.spares.least_with.Goals as goal

pub returns-then-counted-eq0 : goal.returns-then-counted-eq0
returns-then-counted-eq0 c tails are =
    spare-uncounted (bookies_of c.args.bookies.now) tails c.args.counted.now c.args.least (omega (arith, c.if-counted-eq0.true)) are

pub returns : goal.returns
returns c tails are =
    subst (λ (n : ℕ). IsLeastSpare (count_tails_in (tails ++ c.args.counted.now ∷ [])) (bookies_of c.args.bookies.now) n)
    (sym c.lesser.ensures)
    (spare-counted (bookies_of c.args.bookies.now) tails c.args.counted.now c.args.least c.least_in.result (omega (arith, c.if-counted-eq0.false))
    c.least_in.ensures are)
