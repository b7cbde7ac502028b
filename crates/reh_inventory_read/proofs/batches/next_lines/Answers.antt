-- One line more was read, or there is none.
use Rattle.std.proofs.Common.{◌∙◌, ℕ, List, [], ◌∷◌, ap, map, subst, sym}
use Rattle.std.proofs.lemmas.List.{map_push}
use Rattle.reh_inventory_read.specs.Lines.{ReadsLines}
use Rattle.reh_inventory_read.proofs.LineLaws.{into_none, no_bytes, reads_end, reads_on, reads_one, some_bytes}
use Rattle.reh_inventory_read.proofs.batches.next_lines.Goals as goal

pub returns-then-is_empty : goal.returns-then-is_empty
returns-then-is_empty g c =
    let line = c.read_line.new.line in
    reads_end _ _ _ line.items c.loop-number.invariant (into_none _ _ _ c.new-bytes.ensures.items c.in_default.ensures.line)
    (no_bytes line.items _ _ line.ok.0 c.is_empty.ensures c.if-is_empty.true)

pub loop-number-preserved : goal.loop-number-preserved
loop-number-preserved g c =
    let line = c.read_line.new.line in
    subst (λ (lines : List (List ℕ)). ReadsLines (g.B.Read.remaining c.args.reader.now) (g.B.Read.remaining c.read_line.new.reader) lines)
    (sym (ap (map (λ line. line.items)) c.in_ok-push_line.ensures ∙ map_push (λ line. line.items) c.loop-number.lines.items line))
    (reads_on _ (g.B.Read.remaining c.loop-number.reader) _ _ (line.items ∷ []) c.loop-number.invariant
    (reads_one _ _ line.items (into_none _ _ _ c.new-bytes.ensures.items c.in_default.ensures.line) c.in_default.ensures.rest
    (some_bytes line.items _ _ line.ok.0 c.is_empty.ensures c.if-is_empty.false)))
