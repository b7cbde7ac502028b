-- The lines that are passed were added, and one more.
use Rattle.std.proofs.Common.{ℕ, List, ◌∷◌, [], subst, sym}
use Rattle.std.proofs.lemmas.List.{map_push}
use Rattle.reh_inventory_read.specs.Passes.{bytes_of}
use Rattle.reh_inventory_read.proofs.passes.add_made.Goals as goal

pub loop-line-init : goal.loop-line-init
loop-line-init g c = g.met.P.Pass.adds_none c.args.pass.now

pub loop-line-preserved : goal.loop-line-preserved
loop-line-preserved g c =
    let before = c.loop-line.yielded in
    let line = c.in-Some.line in
    subst (λ (lines : List (List ℕ)). g.P.Pass.adds lines c.args.pass.now c.add_line.new.pass) (sym (map_push (λ l. l.bytes.items) before line))
    (g.met.P.Pass.adds_on (bytes_of before) (line.bytes.items ∷ []) c.args.pass.now c.loop-line.pass c.add_line.new.pass
    c.loop-line.invariant c.in_ok-add_line.ensures)
