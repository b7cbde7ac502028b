-- A text without its codes.
use Rattle.std.proofs.Common.{◌≡◌, ◌∙◌, ◌||◌, ◌++◌, ◌∷◌, [], ℕ, Bool, true, false, List, Option, Some, None, if◌then◌else◌, ap, append_assoc, map, refl, sym}
use Rattle.std.proofs.lemmas.List.{append-nil}
use Rattle.std.proofs.lemmas.List.Folds.{list_any-append}
use Rattle.std.proofs.lemmas.List.Splits.{join_with_byte-slice_split}
use Rattle.std.specs.List.{join_with_byte, list_any}
use Rattle.reh_colors.specs.declared.shades.Shade.{Shade}
use Rattle.reh_colors.specs.declared.shades.Shade.TheVariants.{Red, Green, Yellow}
use Rattle.reh_colors.specs.Shades.{code_of, colored, end_code, is_escape, lines, outside_codes, shade_of, shown, shown_in, without_codes}

left_false : (a b : Bool) → (a || b) ≡ false → a ≡ false
left_false true b none = none
left_false false b none = refl

right_false : (a b : Bool) → (a || b) ≡ false → b ≡ false
right_false true b none = cc
right_false false b none = none

-- what has no escape stays
text_more : (b : ℕ) (t : Bool) (bs ys : List ℕ) → t ≡ false → outside_codes false bs ≡ ys
    → (if t then outside_codes true bs else b ∷ outside_codes false bs) ≡ b ∷ ys
text_more b true bs ys none is = cc
text_more b false bs ys none is = ap (λ (t : List ℕ). b ∷ t) is

text_stays : (xs ys : List ℕ) → list_any is_escape xs ≡ false → without_codes (xs ++ ys) ≡ xs ++ without_codes ys
text_stays [] ys none = refl
text_stays (b ∷ bs) ys none =
    text_more b (is_escape b) (bs ++ ys) (bs ++ without_codes ys) (left_false (is_escape b) (list_any is_escape bs) none)
    (text_stays bs ys (right_false (is_escape b) (list_any is_escape bs) none))

-- a code goes
code_goes : (shade : Shade) (ys : List ℕ) → without_codes (code_of shade ++ ys) ≡ without_codes ys
code_goes Red ys = refl
code_goes Green ys = refl
code_goes Yellow ys = refl

shown_in_stays : (shade : Option Shade) (xs ys : List ℕ) → list_any is_escape xs ≡ false
    → without_codes (shown_in shade xs ++ ys) ≡ xs ++ without_codes ys
shown_in_stays None xs ys none = text_stays xs ys none
shown_in_stays (Some shade) xs ys none =
    ap without_codes (append_assoc (code_of shade) (xs ++ end_code) ys)
    ∙ code_goes shade ((xs ++ end_code) ++ ys)
    ∙ ap without_codes (append_assoc xs end_code ys)
    ∙ text_stays xs (end_code ++ ys) none

joined_stays : (ls : List (List ℕ)) → list_any is_escape (join_with_byte 10 ls) ≡ false
    → without_codes (join_with_byte 10 (map shown ls)) ≡ join_with_byte 10 ls
joined_stays [] none = refl
joined_stays (x ∷ []) none =
    ap without_codes (sym (append-nil (shown x))) ∙ shown_in_stays (shade_of x) x [] none ∙ append-nil x
joined_stays (x ∷ y ∷ ls) none =
    let rest : List ℕ = join_with_byte 10 (y ∷ ls) in
    let both : (list_any is_escape x || list_any is_escape rest) ≡ false = sym (list_any-append is_escape x (10 ∷ rest)) ∙ none in
    shown_in_stays (shade_of x) x (10 ∷ join_with_byte 10 (map shown (y ∷ ls))) (left_false (list_any is_escape x) (list_any is_escape rest) both)
    ∙ ap (λ (t : List ℕ). x ++ (10 ∷ t)) (joined_stays (y ∷ ls) (right_false (list_any is_escape x) (list_any is_escape rest) both))

-- a text without an escape is that in colour without its codes
pub colored_stays : (text : List ℕ) → list_any is_escape text ≡ false → without_codes (colored text) ≡ text
colored_stays text none =
    let same = join_with_byte-slice_split 10 text in
    joined_stays (lines text) (ap (list_any is_escape) same ∙ none) ∙ same
