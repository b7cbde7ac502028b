-- One range more is read, and the next one has to begin after its end.
use Rattle.std.proofs.Common.{ℕ, ◌+◌, sym, ap, ◌∙◌, map, take}
use Rattle.serde_json.specs.View.{view}
use Rattle.reh_picture.specs.declared.places.Place.TheVariants as place
use Rattle.reh_picture.specs.Places.{fault_at}
use Rattle.reh_picture.specs.Contents.{next_after, range_fault, ranges_fault}
use Rattle.reh_picture.proofs.ContentsLemmas.{next_after-push}
use Rattle.reh_picture.proofs.Lists.{HasMade-next, passed_to}
use Rattle.reh_picture.proofs.Walks.{IsLeft-fails}
use Rattle.reh_picture.proofs.contents.read_ranges.Goals as goal

pub loop-i-preserved : goal.loop-i-preserved
loop-i-preserved c =
    let so_far = c.loop-i.invariant in
    let value = c.index-values-i.result in record {
      made =
          HasMade-next _ _ c.args.values.now c.loop-i.i value c.loop-i-test.true c.index-values-i.is
          c.loop-i.ranges.items _ so_far.made
          (rw (← so_far.least) c.in_ok-first.ensures.fault)
          (rw (← c.in_ok-first.ensures.ends) c.in_ok-push.ensures.items);
      least = ap (λ (r : ℕ × ℕ). r.1 + 1) c.in_ok-first.ensures.ends
          ∙ sym (ap next_after (passed_to view c.args.values.now c.loop-i.i value c.loop-i-test.true c.index-values-i.is)
          ∙ next_after-push (map view (take c.loop-i.i c.args.values.now)) (view value));
    }

pub returns-in_err-first-clause-fault : goal.returns-in_err-first-clause-fault
unfolding ranges_fault
returns-in_err-first-clause-fault c =
    let content = c.args.content in
    let i = c.loop-i.i in
    let value = c.index-values-i.result in
    let so_far = c.loop-i.invariant in
    IsLeft-fails (λ i before d. fault_at (place.Range content i) (range_fault (next_after before) d)) c.args.values.now i
    value c.loop-i-test.true c.index-values-i.is so_far.made.left c.from_residual.result c.in_err-first.field-0.0
    c.from_residual.ensures.1
    (λ known. ap (λ least. fault_at (place.Range content i) (range_fault least (view value))) (sym so_far.least)
    ∙ c.in_err-first.ensures.fault known)
