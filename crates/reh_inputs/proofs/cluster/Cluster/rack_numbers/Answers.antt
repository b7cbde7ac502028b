-- One bookie more.
use Rattle.std.proofs.Common.{◌≡◌, List, ◌∙◌, ◌++◌, ◌∷◌, [], sym, ap, cond}
use Rattle.std.specs.List.{filter}
use Rattle.std.proofs.lemmas.List.Elements.{filter-append}
use Rattle.reh_census.specs.Striping.{range}
use Rattle.reh_inputs.specs.Cluster.{Cluster, is_first_in_rack}
use Rattle.reh_inputs.specs.Shown.{Shown}
use Rattle.reh_inputs.proofs.RangeLaws.{range-more}
use Rattle.reh_inputs.proofs.cluster.Cluster.rack_numbers.Goals as goal

pub loop-number-preserved : goal.loop-number-preserved
loop-number-preserved c =
    let test = is_first_in_rack c.args.self.now.shown in
    let n = c.loop-number.number in
    let first : c.is_first_in_rack-is_first.result ≡ test n =
    c.is_first_in_rack-is_first.ensures
    ∙ ap (λ (all : List Shown). is_first_in_rack all n)
    (c.deref.ensures.value ∙ ap (λ (k : Cluster). k.shown) c.self.view_is) in
    c.in_ok-add_if.ensures
    ∙ (λ i. c.loop-number.invariant i ++ cond (first i) (n ∷ []) [])
    ∙ sym (ap (filter test) (range-more n) ∙ filter-append test (range 0 n) (n ∷ []))
