-- The lines that were read were added, and those of one batch more.
use Rattle.std.proofs.Common.{Bool, true, false, [], subst}
use Rattle.reh_inventory_read.specs.Passes.{AddsRead}
use Rattle.reh_inventory_read.proofs.LineLaws.{reads_none}
use Rattle.reh_inventory_read.proofs.PassLaws.{adds-further}
use Rattle.reh_inventory_read.proofs.passes.add_all.Goals as goal

pub loop-batch-init : goal.loop-batch-init
loop-batch-init g c =
    let laws = g.met.P.Pass g.world.𝓛 g.world.𝓜 g.world.𝓡 ((λ s x. x), (λ x. x), (λ x. x), λ x. x) in
    record { lines = []; added = laws.adds_none c.args.pass.now; read = reads_none _ }

pub loop-batch-preserved : goal.loop-batch-preserved
loop-batch-preserved g c =
    let laws = g.met.P.Pass g.world.𝓛 g.world.𝓜 g.world.𝓡 ((λ s x. x), (λ x. x), (λ x. x), λ x. x) in
    let left = g.B.Read.remaining c.loop-batch.reader in
    let after = g.B.Read.remaining c.add_batch.new.reader in
    adds-further g.P.Pass.adds laws.adds_on false _ left after c.args.pass.now c.loop-batch.pass c.add_batch.new.pass
    c.loop-batch.invariant
    (subst (λ (last : Bool). AddsRead g.P.Pass.adds last left after c.loop-batch.pass c.add_batch.new.pass) c.if-is_last.false c.in_ok-lines.ensures)

pub returns-then-is_last : goal.returns-then-is_last
returns-then-is_last g c =
    let laws = g.met.P.Pass g.world.𝓛 g.world.𝓜 g.world.𝓡 ((λ s x. x), (λ x. x), (λ x. x), λ x. x) in
    let left = g.B.Read.remaining c.loop-batch.reader in
    let after = g.B.Read.remaining c.add_batch.new.reader in
    adds-further g.P.Pass.adds laws.adds_on true _ left after c.args.pass.now c.loop-batch.pass c.add_batch.new.pass
    c.loop-batch.invariant
    (subst (λ (last : Bool). AddsRead g.P.Pass.adds last left after c.loop-batch.pass c.add_batch.new.pass) c.if-is_last.true c.in_ok-lines.ensures)
