-- One bookie more.
use Rattle.std.proofs.Common.{◌≡◌, ◌∙◌, ◌<◌, List, ap, get_or, length, subst}
use Rattle.reh_inputs.specs.Cluster.{Cluster, bookie_of}
use Rattle.reh_inputs.specs.Shown.{Shown}
use Rattle.reh_inputs.proofs.RangeLaws.{pushed}
use Rattle.reh_inputs.proofs.cluster.Cluster.bookies.Goals as goal

pub loop-shown-preserved : goal.loop-shown-preserved
loop-shown-preserved c =
    let all : List Shown = c.args.self.now.shown in
    let k = c.loop-shown.shown-index in
    let one = c.shown-item.result in
    let same : c.deref-shown-items.result.now ≡ all = c.deref-shown-items.ensures.value ∙ ap (λ (k : Cluster). k.shown) c.self.view_is in
    let own : c.deref.result.now ≡ all = c.deref.ensures.value ∙ ap (λ (k : Cluster). k.shown) c.self.view_is in
    let at : one ≡ get_or all k one = c.shown-item.is ∙ ap (λ (shown : List Shown). get_or shown k one) same in
    pushed (bookie_of all) all k one c.loop-shown.bookies.items c.push.new.self.items c.bookie_of.result
    (subst (λ (shown : List Shown). k < length shown) same c.loop-shown-test.true) c.in_ok-push.ensures.items
    (c.bookie_of.ensures ∙ (λ i. bookie_of (own i) (at i))) c.loop-shown.invariant
