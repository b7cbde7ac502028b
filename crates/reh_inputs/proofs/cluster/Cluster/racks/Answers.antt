-- One rack more.
use Rattle.std.proofs.Common.{◌≡◌, ◌∙◌, ◌<◌, List, [], ◌∷◌, ap, get_or, length, map, string_bytes, subst}
use Rattle.std.proofs.lemmas.List.{map-append}
use Rattle.reh_inputs.specs.Cluster.{Cluster, rack_name}
use Rattle.reh_inputs.specs.Shown.{Shown}
use Rattle.reh_inputs.proofs.RangeLaws.{pushed}
use Rattle.reh_inputs.proofs.cluster.Cluster.racks.Goals as goal

pub loop-shown-preserved : goal.loop-shown-preserved
loop-shown-preserved c =
    let all : List Shown = c.args.self.now.shown in
    let k = c.loop-shown.shown-index in
    let one = c.shown-item.result in
    let rack = c.in_ok-rack_name.field-0 in
    let same : c.deref-shown-items.result.now ≡ all = c.deref-shown-items.ensures.value ∙ ap (λ (k : Cluster). k.shown) c.self.view_is in
    let at : one ≡ get_or all k one = c.shown-item.is ∙ ap (λ (shown : List Shown). get_or shown k one) same in
    pushed rack_name all k one (map string_bytes c.loop-shown.racks.items) (map string_bytes c.push.new.self.items) (string_bytes rack)
    (subst (λ (shown : List Shown). k < length shown) same c.loop-shown-test.true)
    (ap (map string_bytes) c.in_ok-push.ensures.items ∙ map-append string_bytes c.loop-shown.racks.items (rack ∷ []))
    (c.in_ok-rack_name.ensures ∙ ap rack_name at) c.loop-shown.invariant
