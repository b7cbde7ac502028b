-- Fragments that stand in fewer racks, one after another, and the lines before the comments on them.
use Rattle.std.proofs.Common.{◌≡◌, ◌∙◌, ℕ, ◌+◌, ◌-◌, ◌<◌, List, [], ◌∷◌, ◌++◌, ap, arith, append_assoc, get_or, inl, inr, length, length-append, map, refl, sym, take}
use Rattle.std.specs.Prelude.{◌⊎◌, flat_map}
use Rattle.std.proofs.Math.Seq.{take-append_seam}
use Rattle.std.proofs.lemmas.List.{append-nil, flat_map_more, length-map, map_more}
use Rattle.std.specs.List.{range_with_len}
use Rattle.reh_model.specs.Cluster.{Ledger}
use Rattle.reh_model.specs.Metadata.{Metadata}
use Rattle.reh_model.specs.Striping.{range}
use Rattle.reh_stripe.proofs.WordLaws.{range-append}
use Rattle.reh_plan.specs.Plans.{Draft}
use Rattle.reh_plan.specs.Racks.{Racks, fewer_among, fewer_in, lines_before, racks_line}
use Rattle.reh_plan.specs.declared.fewer.FewerRacks.{FewerRacks}

range-more : (n : ℕ) → range 0 (n + 1) ≡ range 0 n ++ n ∷ []
range-more n =
    let long : n + 1 - 0 ≡ (n - 0) + 1 = omega arith in
    let last : 0 + (n - 0) ≡ n = omega arith in
    ap (λ k. range_with_len 0 k) long ∙ range-append 0 (n - 0) 1
    ∙ ap (λ k. range_with_len 0 (n - 0) ++ k ∷ []) last

-- what is added by one number more
pub numbered-more : (f : ℕ → List FewerRacks) (n : ℕ) (before fewer more : List FewerRacks) → fewer ≡ before ++ flat_map f (range 0 n)
    → more ≡ fewer ++ f n → more ≡ before ++ flat_map f (range 0 (n + 1))
numbered-more f n before fewer more so_far grown =
    grown
    ∙ ap (λ (xs : List FewerRacks). xs ++ f n) so_far
    ∙ flat_map_more f before (range 0 n) n
    ∙ ap (λ (ns : List ℕ). before ++ flat_map f ns) (sym (range-more n))

-- those of one ledger more
pub among-more : (r : Racks) (m : Metadata) (g : Ledger) (ms rest : List Metadata) (gs left : List Ledger) (fewer more all : List FewerRacks)
    → ms ≡ m ∷ rest → gs ≡ g ∷ left → more ≡ fewer ++ fewer_in r m g → fewer ++ fewer_among r ms gs ≡ all
    → more ++ fewer_among r rest left ≡ all
among-more r m g ms rest gs left fewer more all first second grown so_far =
    ap (λ (xs : List FewerRacks). xs ++ fewer_among r rest left) grown
    ∙ append_assoc fewer (fewer_in r m g) (fewer_among r rest left)
    ∙ (λ i. fewer ++ fewer_among r (sym first i) (sym second i))
    ∙ so_far

no_ledger : (r : Racks) (ms : List Metadata) → fewer_among r ms [] ≡ []
no_ledger r [] = refl
no_ledger r (m ∷ ms) = refl

-- and of all, where none is left
pub among-all : (r : Racks) (ms : List Metadata) (gs : List Ledger) (fewer all : List FewerRacks) → (ms ≡ []) ⊎ (gs ≡ [])
    → fewer ++ fewer_among r ms gs ≡ all → fewer ≡ all
among-all r ms gs fewer all (inl none) so_far =
    sym (append-nil fewer) ∙ ap (λ (xs : List Metadata). fewer ++ fewer_among r xs gs) (sym none) ∙ so_far
among-all r ms gs fewer all (inr none) so_far =
    sym (append-nil fewer)
    ∙ ap (λ (xs : List FewerRacks). fewer ++ xs) (sym (no_ledger r ms))
    ∙ ap (λ (xs : List Ledger). fewer ++ fewer_among r ms xs) (sym none)
    ∙ so_far

-- one comment more
pub told-more : (d n m : Draft) (fewer : List FewerRacks) (k : ℕ) (one : FewerRacks) (line : List ℕ) → k < length fewer
    → one ≡ get_or fewer k one → line ≡ racks_line one → n ≡ record d { lines = d.lines ++ map racks_line (take k fewer) }
    → m ≡ record n { lines = n.lines ++ line ∷ [] } → m ≡ record d { lines = d.lines ++ map racks_line (take (k + 1) fewer) }
told-more d n m fewer k one line within is written so_far grown =
    let before : List (List ℕ) = map racks_line (take k fewer) in
    let more : before ++ line ∷ [] ≡ map racks_line (take (k + 1) fewer) =
    ap (λ (l : List ℕ). before ++ l ∷ []) written
    ∙ ap (λ (x : FewerRacks). before ++ racks_line x ∷ []) is
    ∙ sym (map_more racks_line fewer k one within) in
    grown
    ∙ ap (λ (x : Draft). record x { lines = x.lines ++ line ∷ [] }) so_far
    ∙ ap (λ (ls : List (List ℕ)). record d { lines = ls })
    (append_assoc d.lines before (line ∷ []) ∙ ap (λ (ls : List (List ℕ)). d.lines ++ ls) more)

-- before the last comments are the lines to which they are added
pub before-told : (fewer : List FewerRacks) (lines : List (List ℕ)) → lines_before fewer (lines ++ map racks_line fewer) ≡ lines
before-told fewer lines =
    let long : length (lines ++ map racks_line fewer) ≡ length lines + length fewer =
    length-append lines (map racks_line fewer) ∙ ap (λ n. length lines + n) (length-map fewer racks_line) in
    let left : length (lines ++ map racks_line fewer) - length fewer ≡ length lines = omega (arith, long) in
    ap (λ n. take n (lines ++ map racks_line fewer)) left ∙ take-append_seam lines (map racks_line fewer)
