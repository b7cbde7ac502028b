use Rattle.std.proofs.Common.{◌≡◌, ◌+◌, ℕ, subst, sym, arith}
use Rattle.reh_census.specs.Bookies.{bookies_of}
use Rattle.reh_waves.specs.Fewest.{IsLeastOf, spare}
use Rattle.reh_waves.proofs.SpareLaws.{least-more, least-one}
use Rattle.reh_waves.proofs.spares.least_in.Goals as goal

pub loop-entry-init : goal.loop-entry-init
loop-entry-init c = least-one (spare (bookies_of c.args.bookies.now) c.args.tail.now) c.spare-least.result c.spare-least.ensures

pub loop-entry-preserved : goal.loop-entry-preserved
loop-entry-preserved c =
    subst (λ (n : ℕ). IsLeastOf (spare (bookies_of c.args.bookies.now) c.args.tail.now) (c.loop-entry.entry + 1) n) (sym c.min-least.ensures)
    (least-more (spare (bookies_of c.args.bookies.now) c.args.tail.now) c.loop-entry.entry c.loop-entry.least c.spare.result
    c.loop-entry.invariant c.spare.ensures)

pub returns : goal.returns
returns c =
    let all : c.loop-entry.entry ≡ c.args.tail.now.size =
    omega (
      arith,
      c.loop-entry-test.false,
      c.loop-entry.auto.entry-end,
      c.requires.some_acks,
      c.requires.acks_within,
      c.requires.writes_within,
    ) in
    subst (λ (n : ℕ). IsLeastOf (spare (bookies_of c.args.bookies.now) c.args.tail.now) n c.loop-entry.least) all c.loop-entry.invariant
