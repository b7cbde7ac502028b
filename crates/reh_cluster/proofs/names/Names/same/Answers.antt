-- Texts are compared by their bytes, which are the names.
use Rattle.std.proofs.Common.{◌≡◌, ◌∙◌, map, ap, sym}
use Rattle.std.specs.Str.{bytes_eq}
use Rattle.std.specs.String.{string_bytes}
use Rattle.std.proofs.lemmas.Slice.Eq.{bytes_eq-Decides, slice_eq-Decides}
use Rattle.reh_types.specs.Same.{told_by}
use Rattle.reh_cluster.proofs.NamesLemmas.{pointwise-map}
use Rattle.reh_cluster.proofs.names.Names.same.Goals as goal

pub returns : goal.returns
returns c =
    let mine : map string_bytes c.as_slice.result.now ≡ c.args.self.now =
    ap (map string_bytes) c.as_slice.ensures.keys ∙ c.self.view_is in
    let others : map string_bytes c.as_slice-2.result.now ≡ c.args.other.now =
    ap (map string_bytes) c.as_slice-2.ensures.keys ∙ c.other.view_is in
    told_by
    (slice_eq-Decides bytes_eq-Decides (map string_bytes c.as_slice.result.now)
    (map string_bytes c.as_slice-2.result.now) c.eq.result
    (c.eq.ensures ∙ pointwise-map string_bytes bytes_eq c.as_slice.result.now c.as_slice-2.result.now))
    (λ same. sym mine ∙ same ∙ others)
    (λ same. mine ∙ same ∙ sym others)
