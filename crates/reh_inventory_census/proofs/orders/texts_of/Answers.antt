-- The names so far are there, and one more.
use Rattle.std.proofs.Common.{◌∙◌, ap, arith, map, ◌<◌, length}
use Rattle.reh_inventory_census.proofs.OrderLemmas.{texts-end, texts-more}
use Rattle.reh_inventory_census.proofs.orders.texts_of.Goals as goal
use Rattle.reh_inventory_census.proofs.orders.texts_of.Goals.{in-Some+in_ok-push, in_default}

pub loop-number-preserved : goal.loop-number-preserved
loop-number-preserved c =
    let names = c.args.names.now in
    let i = c.loop-number.number in
    let below : i < length names = omega (arith, c.loop-number-test.true, c.len-number-end.ensures.count) in
    elim c.match-name.branch [
      | in-Some+in_ok-push w ↦
          ap (λ texts. map (λ text. text.now) texts.items) w.texts-is
          ∙ ap (map (λ text. text.now)) w.in_ok-push.ensures.items
          ∙ texts-more names i c.loop-number.texts.items w.in-Some.name c.name.result below c.name.ensures w.in-Some.is c.loop-number.invariant
      | in_default w ↦ absurd (texts-end names i c.name.result below c.name.ensures w.in_default.is)
    ]
