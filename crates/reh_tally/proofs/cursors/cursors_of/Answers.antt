use Rattle.std.proofs.Common.{◌∙◌, ◌++◌, ◌∷◌, [], List, map, ap, sym, subst, ◌≤◌}
use Rattle.std.specs.Prelude.{All}
use Rattle.std.proofs.lemmas.List.{map-append, take_more}
use Rattle.std.proofs.lemmas.List.Elements.{All-push}
use Rattle.reh_tally.specs.declared.cursors.Cursor.{Cursor}
use Rattle.reh_tally.specs.Cursors.{IsCursor}
use Rattle.reh_tally.proofs.cursors.cursors_of.Goals as goal

pub loop-bookie-preserved : goal.loop-bookie-preserved
loop-bookie-preserved c = record {
  members =
      ap (λ (items : List Cursor). map (λ (d : Cursor). d.bookie) items) c.in_ok-push.ensures.items
      ∙ map-append (λ (d : Cursor). d.bookie) c.loop-bookie.cursors.items (c.cursor_of-cursor.result ∷ [])
      ∙ (λ i. c.loop-bookie.invariant.members i ++ c.cursor_of-cursor.ensures.bookie i ∷ [])
      ∙ sym (take_more c.args.members.now c.loop-bookie.bookie-index 0 c.loop-bookie-test.true);
  told =
      subst (λ (items : List Cursor). All (IsCursor c.args.ledger.now c.args.first) items) (sym c.in_ok-push.ensures.items)
      (All-push (IsCursor c.args.ledger.now c.args.first) c.loop-bookie.cursors.items c.cursor_of-cursor.result c.loop-bookie.invariant.told c.cursor_of-cursor.ensures.told);
  none =
      subst (λ (items : List Cursor). All (λ (d : Cursor). d.stretch.end ≤ c.args.first) items) (sym c.in_ok-push.ensures.items)
      (All-push (λ (d : Cursor). d.stretch.end ≤ c.args.first) c.loop-bookie.cursors.items c.cursor_of-cursor.result c.loop-bookie.invariant.none c.cursor_of-cursor.ensures.none);
}
