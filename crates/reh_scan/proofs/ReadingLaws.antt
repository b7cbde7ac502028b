-- Whether an entry can be read, by the rows at the indexes of its write set.
use Rattle.std.proofs.Common.{◌≡◌, ◌∙◌, ◌<◌, ◌||◌, false, Bool, List, [], ◌∷◌, ℕ, refl, ap, sym, subst, length, get_or}
use Rattle.std.proofs.Common.{slice_index, Bor, All, arith}
use Rattle.std.specs.List.{list_any}
use Rattle.std.specs.Option.{option_map_or}
use Rattle.std.proofs.lemmas.Option.{slice_get-get_or}
use Rattle.std.proofs.lemmas.List.Elements.{All-head, All-tail}
use Rattle.reh_held.specs.Rows.{is_set}
use Rattle.reh_model.specs.Striping.{write_set}
use Rattle.reh_model.specs.Metadata.{Fragment, Metadata, IsMetadata}
use Rattle.reh_model.specs.Cluster.{Cluster, Ledger, is_source, is_readable}
use Rattle.reh_model.proofs.WriteSetLaws.{write_set-below}
use Rattle.reh_model.proofs.Ranges.{list_any-map}
use Rattle.reh_scan.specs.Sources.{is_source_at, is_set_at}

-- the indexes of a write set are in the ensemble
pub write_set_within : (m : Metadata) (entry : ℕ) → IsMetadata m
    → All (λ i. i < m.size) (write_set entry m.size m.write_quorum)
write_set_within m entry rules_of =
    write_set-below entry m.size m.write_quorum
    (omega (arith, rules_of.some_acks, rules_of.acks_within, rules_of.writes_within))

-- tests that give the same answers below a size
pub any_same_below : (p q : ℕ → Bool) (size : ℕ) → ((i : ℕ) → i < size → p i ≡ q i) → (is : List ℕ)
    → All (λ i. i < size) is → list_any p is ≡ list_any q is
any_same_below p q size same [] within = refl
any_same_below p q size same (i ∷ is) within =
    ap (λ b. b || list_any p is) (same i (All-head (λ j. j < size) i is within))
    ∙ ap (λ b. q i || b) (any_same_below p q size same is (All-tail (λ j. j < size) i is within))

-- an entry can be read if the row at some index of its write set has it, where the rows are those of the registered
-- members
pub is_readable-rows : (s : Cluster) (g : Ledger) (fragment : Fragment) (rows : List (Bor (List ℕ))) (m : Metadata)
    → m ≡ g.metadata → IsMetadata g.metadata
    → ((index entry : ℕ) → index < g.metadata.size → is_set_at rows entry index ≡ is_source_at s g fragment entry index)
    → (entry : ℕ)
    → is_readable s g fragment entry ≡ list_any (is_set_at rows entry) (write_set entry m.size m.write_quorum)
is_readable-rows s g fragment rows m same_metadata rules_of same entry =
    list_any-map (is_source s g.id entry) (λ i. slice_index fragment.ensemble i)
    (write_set entry g.metadata.size g.metadata.write_quorum)
    ∙ sym (any_same_below (is_set_at rows entry) (is_source_at s g fragment entry) g.metadata.size
    (λ index below. same index entry below)
    (write_set entry g.metadata.size g.metadata.write_quorum) (write_set_within g.metadata entry rules_of))
    ∙ ap (λ (m : Metadata). list_any (is_set_at rows entry) (write_set entry m.size m.write_quorum)) (sym same_metadata)

-- the row that stands at a place
pub is_set_there : (rows : List (Bor (List ℕ))) (index entry : ℕ) (d : Bor (List ℕ)) → index < length rows
    → is_set_at rows entry index ≡ is_set (get_or rows index d).now entry
is_set_there rows index entry d inside =
    ap (λ found. option_map_or (λ row. is_set row.now entry) found false) (slice_get-get_or rows index d inside)

-- the first of the indexes that are left is in the ensemble
pub first_within : (indexes rest : List ℕ) (i size : ℕ) → indexes ≡ i ∷ rest → All (λ j. j < size) indexes → i < size
first_within indexes rest i size is within =
    All-head (λ j. j < size) i rest (subst (λ (js : List ℕ). All (λ j. j < size) js) is within)
