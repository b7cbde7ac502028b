-- The same is said of the same, and the notes on files one after another.
use Rattle.std.proofs.Common.{◌≡◌, ◌∙◌, ◌⊎◌, ◌++◌, ◌∷◌, [], ℕ, Bool, Bor, List, Option, Vec, ap, append_assoc, inl, inr, refl, subst, sym}
use Rattle.std.proofs.lemmas.List.{append-nil}
use Rattle.std.specs.declared.alloc.Global.{Global}
use Rattle.reh_census.specs.Ledgers.{Ledger}
use Rattle.reh_inputs.specs.declared.together.Gathered.{Gathered}
use Rattle.reh_inventory_against.specs.Files.{AreWeighed, Weighed}
use Rattle.reh_stop.specs.Stops.{IsAnsweredBy}
use Rattle.reh_stop.specs.declared.stops.Asked.{Asked}
use Rattle.reh_stop.specs.declared.stops.Said.{Said}
use Rattle.reh_questions.specs.Against.{cut_note, cut_notes}
use Rattle.reh_questions.specs.declared.inputs.FileKind.{FileKind}

pub weighed-same : (names names' : List (List ℕ)) (strict : Bool) (flags flags' : List Bool) (kept kept' : List (Vec ℕ Global))
    (files : List Weighed) → names ≡ names' → flags ≡ flags' → kept ≡ kept' → AreWeighed names strict flags kept files
    → AreWeighed names' strict flags' kept' files
weighed-same names names' strict flags flags' kept kept' files n f k are =
    subst (λ (x : List (List ℕ)). AreWeighed x strict flags' kept' files) n
    (subst (λ (x : List Bool). AreWeighed names strict x kept' files) f
    (subst (λ (x : List (Vec ℕ Global)). AreWeighed names strict flags x files) k are))

pub answered-same : (ids ids' : List ℕ) (ledgers : List (List Ledger)) (taken taken' : Option (List ℕ))
    (notes notes' : List (List ℕ)) (g : Gathered) (asked : Asked) (said : Said) → ids ≡ ids' → taken ≡ taken' → notes ≡ notes'
    → IsAnsweredBy ids ledgers taken notes g asked said → IsAnsweredBy ids' ledgers taken' notes' g asked said
answered-same ids ids' ledgers taken taken' notes notes' g asked said i t n is =
    subst (λ (x : List ℕ). IsAnsweredBy x ledgers taken' notes' g asked said) i
    (subst (λ (x : Option (List ℕ)). IsAnsweredBy ids ledgers x notes' g asked said) t
    (subst (λ (x : List (List ℕ)). IsAnsweredBy ids ledgers taken x g asked said) n is))

-- the notes on one file more
pub cut-more : (path : Bor (List ℕ)) (kind : FileKind) (paths rest : List (Bor (List ℕ))) (kinds left : List FileKind)
    (notes more all : List (List ℕ)) → paths ≡ path ∷ rest → kinds ≡ kind ∷ left → more ≡ notes ++ cut_note path.now kind
    → notes ++ cut_notes paths kinds ≡ all → more ++ cut_notes rest left ≡ all
cut-more path kind paths rest kinds left notes more all first second grown so_far =
    ap (λ (xs : List (List ℕ)). xs ++ cut_notes rest left) grown
    ∙ append_assoc notes (cut_note path.now kind) (cut_notes rest left)
    ∙ (λ i. notes ++ cut_notes (sym first i) (sym second i))
    ∙ so_far

no_kind : (paths : List (Bor (List ℕ))) → cut_notes paths [] ≡ []
no_kind [] = refl
no_kind (path ∷ paths) = refl

-- and on all, where none is left
pub cut-all : (paths : List (Bor (List ℕ))) (kinds : List FileKind) (notes all : List (List ℕ)) → (paths ≡ []) ⊎ (kinds ≡ [])
    → notes ++ cut_notes paths kinds ≡ all → notes ≡ all
cut-all paths kinds notes all (inl none) so_far =
    sym (append-nil notes) ∙ ap (λ (xs : List (Bor (List ℕ))). notes ++ cut_notes xs kinds) (sym none) ∙ so_far
cut-all paths kinds notes all (inr none) so_far =
    sym (append-nil notes)
    ∙ ap (λ (xs : List (List ℕ)). notes ++ xs) (sym (no_kind paths))
    ∙ ap (λ (xs : List FileKind). notes ++ cut_notes paths xs) (sym none)
    ∙ so_far
