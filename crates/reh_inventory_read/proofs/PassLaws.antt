-- Lines of an inventory of which something was made by themselves, and lines that were added one after another.
use Rattle.std.proofs.Common.{◌≡◌, ◌∙◌, ℕ, suc, ◌<◌, ap, arith, refl, slice_index_or, ◌++◌, ◌∷◌, [], Bool, false, List, Option, length}
use Rattle.reh_inventory_read.proofs.LineLaws.{reads_further}
use Rattle.reh_inventory_read.specs.declared.passes.MadeLine.{MadeLine}
use Rattle.reh_inventory_read.specs.Passes.{AddsRead, bytes_of}

-- lines have the bytes that they had
pub same-bytes : {M : Type 0} (was are : List (MadeLine M)) → length are ≡ length was
    → ((i : ℕ) (d : MadeLine M) → i < length was → (slice_index_or are i d).bytes.items ≡ (slice_index_or was i d).bytes.items)
    → bytes_of are ≡ bytes_of was
same-bytes [] [] long at = refl
same-bytes [] (b ∷ are) long at = absurd (omega (arith, long))
same-bytes (a ∷ was) [] long at = absurd (omega (arith, long))
same-bytes (a ∷ was) (b ∷ are) long at =
    ap (λ (bytes : List ℕ). bytes ∷ bytes_of are) (at 0 a (omega arith))
    ∙ ap (λ (lines : List (List ℕ)). a.bytes.items ∷ lines)
    (same-bytes was are (omega (arith, long)) (λ i d below. at (suc i) d (omega (arith, below))))

-- lines were added, and then the last of them, or others
pub adds-further : {P : Type 0} (adds : List (List ℕ) → P → P → Type 0)
    → ((lines others : List (List ℕ)) (one mid other : P) → adds lines one mid → adds others mid other → adds (lines ++ others) one other)
    → (is_last : Bool) (old left new : Option (List ℕ)) (one mid other : P) → AddsRead adds false old left one mid
    → AddsRead adds is_last left new mid other → AddsRead adds is_last old new one other
adds-further adds adds-on is_last old left new one mid other before more = record {
  lines = before.lines ++ more.lines;
  added = adds-on before.lines more.lines one mid other before.added more.added;
  read = reads_further is_last old left new before.lines more.lines before.read more.read;
}
