-- One holding more is read, and its pair of bookie and ledger joins those before it.
use Rattle.std.proofs.Common.{sym, ap, ◌∙◌, ◌++◌, ◌∷◌, [], map, take}
use Rattle.std.proofs.lemmas.List.{map-append}
use Rattle.serde_json.specs.View.{view}
use Rattle.reh_picture.specs.Contents.{content_fault, each_content_fault, pair_of, pairs_in}
use Rattle.reh_picture.proofs.Lists.{HasMade-next, passed_to}
use Rattle.reh_picture.proofs.Walks.{IsLeft-all, IsLeft-fails, HasMade-all}
use Rattle.reh_picture.proofs.contents.read_each_content.Goals as goal

pub loop-i-preserved : goal.loop-i-preserved
loop-i-preserved c =
    let so_far = c.loop-i.invariant in
    let value = c.index-values-i.result in record {
      made =
          HasMade-next _ _ c.args.values.now c.loop-i.i value c.loop-i-test.true c.index-values-i.is
          c.loop-i.holdings.items _ so_far.made
          (rw (← so_far.pairs) c.in_ok-add_content.ensures.fault)
          c.in_ok-add_content.ensures.holdings;
      pairs =
          c.in_ok-add_content.ensures.pairs
          ∙ ap (λ pairs. pairs ++ pair_of c.args.names.now (view value) ∷ []) so_far.pairs
          ∙ sym (ap (pairs_in c.args.names.now)
          (passed_to view c.args.values.now c.loop-i.i value c.loop-i-test.true c.index-values-i.is)
          ∙ map-append (pair_of c.args.names.now) (map view (take c.loop-i.i c.args.values.now)) _);
    }

pub returns-in_err-add_content-clause-fault : goal.returns-in_err-add_content-clause-fault
unfolding each_content_fault
returns-in_err-add_content-clause-fault c =
    let names = c.args.names.now in
    let ids = c.args.ids.now.keys in
    let i = c.loop-i.i in
    let value = c.index-values-i.result in
    let so_far = c.loop-i.invariant in
    IsLeft-fails (λ i before d. content_fault names ids i (pairs_in names before) d) c.args.values.now i value
    c.loop-i-test.true c.index-values-i.is so_far.made.left c.from_residual.result c.in_err-add_content.field-0.0
    c.from_residual.ensures.1
    (λ known. ap (λ pairs. content_fault names ids i pairs (view value)) (sym so_far.pairs)
    ∙ c.in_err-add_content.ensures.fault known)

pub returns-clause-fault : goal.returns-clause-fault
unfolding each_content_fault
returns-clause-fault c =
    let names = c.args.names.now in
    IsLeft-all (λ i before d. content_fault names c.args.ids.now.keys i (pairs_in names before) d) c.args.values.now
    c.loop-i.i c.loop-i-test.false c.loop-i.invariant.made.left

pub returns-clause-holdings : goal.returns-clause-holdings
returns-clause-holdings c =
    HasMade-all _ _ c.args.values.now c.loop-i.i _ c.loop-i-test.false c.loop-i.invariant.made
