-- A name that is there stands at its place.
use Rattle.std.proofs.Common.{◌∙◌, ℕ, Some, ap, sym}
use Rattle.std.specs.Prelude.{slice_get, false}
use Rattle.std.specs.Option.{option_map_or}
use Rattle.std.specs.Str.{bytes_eq}
use Rattle.reh_inputs.proofs.NameOrder.{found, missing}
use Rattle.reh_inputs.proofs.names.ClusterNames.find.Goals as goal

pub returns-then-is_at : goal.returns-then-is_at
returns-then-is_at c =
    let name = c.args.name.now in
    let names = c.args.self.now in
    let place = c.place_of-place.ensures.place in
    ap (λ (n : ℕ). Some n) place
    ∙ sym (found name names
    (sym (ap (λ (n : ℕ). option_map_or (bytes_eq name) (slice_get names n) false) place) ∙ sym c.is_at.ensures ∙ c.if-is_at.true))

pub returns-else-is_at : goal.returns-else-is_at
returns-else-is_at c =
    let name = c.args.name.now in
    let names = c.args.self.now in
    sym (missing name names c.place_of-place.ensures.order
    (sym (ap (λ (n : ℕ). option_map_or (bytes_eq name) (slice_get names n) false) c.place_of-place.ensures.place)
    ∙ sym c.is_at.ensures ∙ c.if-is_at.false))
