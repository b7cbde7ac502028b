use Rattle.std.proofs.Common.{◌≡◌, Bool, sym, subst, ◌∙◌}
use Rattle.std.specs.Prelude.{◌↔◌, IsTrue}
use Rattle.reh_types.specs.Same.{told_by, tells_lists, tells_numbers}
use Rattle.reh_types.proofs.contents.Members.same.Goals as goal

pub returns : goal.returns
returns c =
    let one = c.as_slice.ensures.value ∙ c.self.view_is in
    let two = c.as_slice-2.ensures.value ∙ c.other.view_is in
    let told =
    subst (λ (same : Bool). IsTrue same ↔ (c.as_slice.result.now ≡ c.as_slice-2.result.now)) (sym c.eq.ensures)
    (tells_lists tells_numbers _ _) in
    told_by told (λ same. sym one ∙ same ∙ two) (λ same. one ∙ same ∙ sym two)
