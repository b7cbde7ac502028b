-- Texts that are read in parts.
use Rattle.std.proofs.Common.{◌≡◌, ℕ, ◌<◌, Bool, true, false, cond, List, [], ◌∷◌, ◌++◌, length}
use Rattle.std.proofs.Common.{refl, sym, ap, ◌∙◌, subst, arith, append-nil}
use mathlib.Core.List.{append_assoc}
use Rattle.std.specs.Prelude.{◌==◌, ◌||◌}
use Rattle.std.specs.List.{onto_first}
use Rattle.reh_lines.specs.Lines.{lines_of, ended}
use Rattle.reh_lines.proofs.EndedLaws.{has_lf, ended_none}

-- a byte in front of lines, of which there is one
onto_first-append : (b : ℕ) (ls ms : List (List ℕ)) → 0 < length ls
    → onto_first b (ls ++ ms) ≡ onto_first b ls ++ ms
onto_first-append b [] ms some = absurd (omega arith)
onto_first-append b (l ∷ ls) ms some = refl

-- a text with a byte has a line
lines_of-some : (b : ℕ) (bs : List ℕ) → 0 < length (lines_of (b ∷ bs))
lines_of-some b bs =
    elim (b == 10) as (λ t. 0 < length (cond t ([] ∷ lines_of bs) (onto_first b (lines_of bs)))) [
      | true ↦ omega arith
      | false ↦
          elim (lines_of bs) as (λ ls. 0 < length (onto_first b ls)) [
            | [] ↦ omega arith
            | l ∷ ls ↦ omega arith
          ]
    ]

-- where there is an LF, a line ends
ended-some : (xs : List ℕ) → has_lf xs ≡ true → 0 < length (lines_of (ended xs))
ended-some [] some = cc
ended-some (b ∷ bs) some =
    rw (ap (λ (t : Bool). cond t (b ∷ ended bs) []) some) (lines_of-some b (ended bs))

pub ended-some_bytes : (xs : List ℕ) → has_lf xs ≡ true → 0 < length (ended xs)
ended-some_bytes [] some = cc
ended-some_bytes (b ∷ bs) some =
    omega (arith, ap (λ (t : Bool). length (cond t (b ∷ ended bs) [])) some)

-- the lines that end in a text, and those of what follows
pub lines_of-ended : (xs ys : List ℕ) → lines_of (ended xs ++ ys) ≡ lines_of (ended xs) ++ lines_of ys
lines_of-ended [] ys = refl
lines_of-ended (b ∷ bs) ys =
    elim (has_lf (b ∷ bs)) as
    (λ t. has_lf (b ∷ bs) ≡ t
    → lines_of (cond t (b ∷ ended bs) [] ++ ys) ≡ lines_of (cond t (b ∷ ended bs) []) ++ lines_of ys) [
      | true ↦ λ some.
          elim (b == 10) as
          (λ u. (b == 10) ≡ u
          → cond u ([] ∷ lines_of (ended bs ++ ys)) (onto_first b (lines_of (ended bs ++ ys)))
          ≡ cond u ([] ∷ lines_of (ended bs)) (onto_first b (lines_of (ended bs))) ++ lines_of ys) [
            | true ↦ λ is. ap (λ (ls : List (List ℕ)). [] ∷ ls) (lines_of-ended bs ys)
            | false ↦ λ is.
                let later : has_lf bs ≡ true = sym (ap (λ (u : Bool). u || has_lf bs) is) ∙ some in
                ap (onto_first b) (lines_of-ended bs ys)
                ∙ onto_first-append b (lines_of (ended bs)) (lines_of ys) (ended-some bs later)
          ] refl
      | false ↦ λ none. refl
    ] refl

-- more without an LF ends no line
pub has_lf-append : (xs ys : List ℕ) → has_lf ys ≡ false → has_lf (xs ++ ys) ≡ has_lf xs
has_lf-append [] ys none = none
has_lf-append (b ∷ bs) ys none = ap (λ (t : Bool). (b == 10) || t) (has_lf-append bs ys none)

pub ended-quiet : (xs ys : List ℕ) → has_lf ys ≡ false → ended (xs ++ ys) ≡ ended xs
ended-quiet [] ys none = ended_none ys none
ended-quiet (b ∷ bs) ys none =
    ap (λ (t : Bool). cond t (b ∷ ended (bs ++ ys)) []) (has_lf-append (b ∷ bs) ys none)
    ∙ ap (λ (text : List ℕ). cond (has_lf (b ∷ bs)) (b ∷ text) []) (ended-quiet bs ys none)

has_lf-behind : (xs ys : List ℕ) → has_lf ys ≡ true → has_lf (xs ++ ys) ≡ true
has_lf-behind [] ys some = some
has_lf-behind (b ∷ bs) ys some =
    elim (b == 10) as (λ t. (t || has_lf (bs ++ ys)) ≡ true) [
      | true ↦ refl
      | false ↦ has_lf-behind bs ys some
    ]

-- more with an LF ends lines up to its own last one
pub ended-loud : (xs ys : List ℕ) → has_lf ys ≡ true → ended (xs ++ ys) ≡ xs ++ ended ys
ended-loud [] ys some = refl
ended-loud (b ∷ bs) ys some =
    ap (λ (t : Bool). cond t (b ∷ ended (bs ++ ys)) []) (has_lf-behind (b ∷ bs) ys some)
    ∙ ap (λ (text : List ℕ). b ∷ text) (ended-loud bs ys some)

-- the lines that end are the front of a text
pub ended-front : (xs : List ℕ) → (rest : List ℕ) × (xs ≡ ended xs ++ rest)
ended-front [] = ([], refl)
ended-front (b ∷ bs) =
    elim (has_lf (b ∷ bs)) as (λ t. (rest : List ℕ) × (b ∷ bs ≡ cond t (b ∷ ended bs) [] ++ rest)) [
      | true ↦ let back = ended-front bs in (back.0, ap (λ (text : List ℕ). b ∷ text) back.1)
      | false ↦ (b ∷ bs, refl)
    ]

-- and stay it, whatever follows
pub ended-stays : (xs ys : List ℕ) → (rest : List ℕ) × (ended (xs ++ ys) ≡ ended xs ++ rest)
ended-stays xs ys =
    elim (has_lf ys) as (λ t. has_lf ys ≡ t → (rest : List ℕ) × (ended (xs ++ ys) ≡ ended xs ++ rest)) [
      | true ↦ λ some.
          let back = ended-front xs in (
            back.0 ++ ended ys,
            ended-loud xs ys some
                ∙ ap (λ (text : List ℕ). text ++ ended ys) back.1
                ∙ append_assoc (ended xs) back.0 (ended ys),
          )
      | false ↦ λ none. ([], ended-quiet xs ys none ∙ sym (append-nil (ended xs)))
    ] refl

-- lines that end stay all
has_lf-ended : (xs : List ℕ) → has_lf (ended xs) ≡ has_lf xs
has_lf-ended [] = refl
has_lf-ended (b ∷ bs) =
    elim (has_lf (b ∷ bs)) as (λ t. has_lf (b ∷ bs) ≡ t → has_lf (cond t (b ∷ ended bs) []) ≡ t) [
      | true ↦ λ some. ap (λ (t : Bool). (b == 10) || t) (has_lf-ended bs) ∙ some
      | false ↦ λ none. refl
    ] refl

pub ended_twice : (xs : List ℕ) → ended (ended xs) ≡ ended xs
ended_twice [] = refl
ended_twice (b ∷ bs) =
    elim (has_lf (b ∷ bs)) as
    (λ t. has_lf (b ∷ bs) ≡ t → ended (cond t (b ∷ ended bs) []) ≡ cond t (b ∷ ended bs) []) [
      | true ↦ λ some.
          ap (λ (t : Bool). cond t (b ∷ ended (ended bs)) [])
          (ap (λ (t : Bool). (b == 10) || t) (has_lf-ended bs) ∙ some)
          ∙ ap (λ (text : List ℕ). b ∷ text) (ended_twice bs)
      | false ↦ λ none. refl
    ] refl

-- the lines of some first bytes, which end, and those of the bytes after them
pub lines_behind : (first part : List ℕ) → ended first ≡ first → lines_of (first ++ part) ≡ lines_of first ++ lines_of part
lines_behind first part ends =
    subst (λ (t : List ℕ). lines_of (t ++ part) ≡ lines_of t ++ lines_of part) ends (lines_of-ended first part)
