-- A range is added at once, which makes the same contents as entry by entry.
use Rattle.std.proofs.Common.{ℕ, get_or, sym, ap, ◌∙◌}
use Rattle.reh_types.specs.Sets as set
use Rattle.reh_types.specs.Sets.{triples}
use Rattle.reh_held.specs.Values.{HeldValue}
use Rattle.reh_picture.specs.Contents.{copies_within}
use Rattle.reh_picture.proofs.ContentsLemmas.{union-from_list}
use Rattle.reh_picture.proofs.Greatest.{copies-next}
use Rattle.reh_picture.proofs.contents.add_holding.Goals as goal

pub loop-ends-preserved : goal.loop-ends-preserved
loop-ends-preserved c =
    let none : ℕ × ℕ = (0, 0) in
    let holding = c.holding.inside in
    let ranges = c.deref-ends-items.result.now in
    let copies = copies_within holding.bookie holding.ledger (get_or ranges c.loop-ends.ends-index none) in
    let contents =
    ap (λ (v : HeldValue). set.union v.contents (set.from_list copies)) c.loop-ends.invariant
    ∙ union-from_list triples _ copies
    ∙ sym (copies-next c.args.held.now.contents holding.bookie holding.ledger ranges c.loop-ends.ends-index none
    c.loop-ends-test.true) in
    c.add_range.ensures
    ∙ (λ j.
    record {
      contents = contents j;
      bookies = (c.loop-ends.invariant j).bookies;
      words = (c.loop-ends.invariant j).words;
    })
