-- Texts up to their last LF.
use Rattle.std.proofs.Common.{◌≡◌, ℕ, zero, suc, ◌+◌, ◌<◌, Bool, false, cond, List, [], ◌∷◌, length, take, drop, get_or, refl, ap, ◌∙◌, arith, eq-eqb}
use Rattle.std.specs.Prelude.{◌==◌}
use Rattle.std.specs.List.{list_any}
use Rattle.std.proofs.lemmas.Bool.Decides.{nat_tests}
use Rattle.std.proofs.lemmas.List.{drop_more}
use Rattle.std.proofs.lemmas.List.Folds.{list_any_at}
use Rattle.reh_lines.specs.Lines.{ended}

-- whether a text has an LF
abbrev pub has_lf : List ℕ → Bool
has_lf text = list_any (λ c. c == 10) text

-- of a text without LF nothing
pub ended_none : (text : List ℕ) → has_lf text ≡ false → ended text ≡ []
ended_none [] none = refl
ended_none (b ∷ bs) none = ap (λ (t : Bool). cond t (b ∷ ended bs) []) none

-- of any other all up to the last one
pub ended_at : (text : List ℕ) (k : ℕ) → k < length text → get_or text k 0 ≡ 10 → has_lf (drop (suc k) text) ≡ false → ended text ≡ take (suc k) text
ended_at [] k within is none = absurd (omega arith)
ended_at (b ∷ bs) zero within is none =
    ap (λ (t : Bool). cond t (b ∷ ended bs) []) (list_any_at (λ c. c == 10) (b ∷ bs) 0 0 within (eq-eqb b 10 is))
    ∙ ap (λ (text : List ℕ). b ∷ text) (ended_none bs none)
ended_at (b ∷ bs) (suc k) within is none =
    ap (λ (t : Bool). cond t (b ∷ ended bs) []) (list_any_at (λ c. c == 10) (b ∷ bs) (suc k) 0 within (eq-eqb (get_or bs k 0) 10 is))
    ∙ ap (λ (text : List ℕ). b ∷ text) (ended_at bs k (omega arith) is none)

no_lf : (b : ℕ) (rest : List ℕ) → (b ≡ 10 → ⊥) → has_lf rest ≡ false → has_lf (b ∷ rest) ≡ false
no_lf b rest other none = grind (arith, nat_tests, none)

-- one more byte in front
pub no_lf_more : (text : List ℕ) (k : ℕ) → k < length text → (get_or text k 0 ≡ 10 → ⊥) → has_lf (drop (k + 1) text) ≡ false → has_lf (drop k text) ≡ false
no_lf_more text k within other none = ap has_lf (drop_more text k 0 within) ∙ no_lf (get_or text k 0) (drop (k + 1) text) other none
