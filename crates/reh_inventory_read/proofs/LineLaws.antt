-- Lines that a reader gave, one after another.
use Rattle.std.proofs.Common.{◌≡◌, ℕ, ◌==◌, Bool, true, false, cond, List, [], ◌∷◌, ◌++◌, append-nil, append_assoc, refl, sym, ap, subst, ◌∙◌, Some, None, Option, arith, length, eqb-true, eq-eqb}
use Rattle.std.proofs.lemmas.Bool.{true≢false}
use Rattle.std.specs.Prelude.{IfSome}
use Rattle.std.specs.Io.BufRead.{DropsThrough, drop_through, take_through}
use Rattle.std.specs.List.{onto_first}
use Rattle.std.specs.Option.{IsSomeAnd}
use Rattle.reh_inventory_read.specs.Lines.{Reads, ReadsAll, ReadsLines, lines_in}

no_byte : {b : ℕ} {bytes : List ℕ} → [] ≡ b ∷ bytes → ⊥
no_byte none = absurd (omega (arith, ap (λ (l : List ℕ). length l) none))

-- one byte more before the lines of the others
with_byte : (b : ℕ) (bytes line : List ℕ) (lines : List (List ℕ)) (t : Bool) → onto_first b (lines_in bytes) ≡ (b ∷ line) ∷ lines
    → cond t ((b ∷ []) ∷ lines_in bytes) (onto_first b (lines_in bytes))
    ≡ cond t (b ∷ []) (b ∷ line) ∷ cond t (lines_in bytes) lines
with_byte b bytes line lines true others = refl
with_byte b bytes line lines false others = others

-- the lines of some bytes are the first of them, and those of what comes after it
lines_at : (b : ℕ) (bytes : List ℕ)
    → lines_in (b ∷ bytes) ≡ take_through 10 (b ∷ bytes) ∷ lines_in (drop_through 10 (b ∷ bytes))
lines_at b [] = with_byte b [] [] [] (b == 10) refl ∙ one b (b == 10)
  where
    one : (b : ℕ) (t : Bool) → cond t (b ∷ []) (b ∷ []) ∷ cond t (lines_in []) []
        ≡ cond t (b ∷ []) (b ∷ []) ∷ lines_in (cond t [] [])
    one b true = refl
    one b false = refl
lines_at b (c ∷ bytes) =
    with_byte b (c ∷ bytes) (take_through 10 (c ∷ bytes)) (lines_in (drop_through 10 (c ∷ bytes))) (b == 10)
    (ap (onto_first b) (lines_at c bytes))
    ∙ inside (b == 10)
  where
    inside : (t : Bool) → cond t (b ∷ []) (b ∷ take_through 10 (c ∷ bytes)) ∷ cond t (lines_in (c ∷ bytes)) (lines_in (drop_through 10 (c ∷ bytes)))
        ≡ cond t (b ∷ []) (b ∷ take_through 10 (c ∷ bytes)) ∷ lines_in (cond t (c ∷ bytes) (drop_through 10 (c ∷ bytes)))
    inside true = refl
    inside false = refl

pub lines_first : (bytes : List ℕ) → (take_through 10 bytes ≡ [] → ⊥)
    → lines_in bytes ≡ take_through 10 bytes ∷ lines_in (drop_through 10 bytes)
lines_first [] some = absurd (some refl)
lines_first (b ∷ bytes) some = lines_at b bytes

-- no line was read
pub reads_none : (left : Option (List ℕ)) → ReadsLines left left []
reads_none (Some bytes) = refl
reads_none None = tt

-- one line was read
pub reads_one : (old new : Option (List ℕ)) (line : List ℕ) → IfSome old (λ bytes. line ≡ take_through 10 bytes)
    → DropsThrough old new 10 → (line ≡ [] → ⊥) → ReadsLines old new (line ∷ [])
reads_one None new line is drops some = tt
reads_one (Some bytes) new line is drops some =
    subst (λ (o : Option (List ℕ)). IsSomeAnd o (λ after. lines_in bytes ≡ line ∷ lines_in after)) (sym drops)
    (subst (λ (l : List ℕ). lines_in bytes ≡ l ∷ lines_in (drop_through 10 bytes)) (sym is)
    (lines_first bytes (λ none. some (is ∙ none))))

-- lines were read, and then others
pub reads_on : (old mid new : Option (List ℕ)) (lines others : List (List ℕ)) → ReadsLines old mid lines
    → ReadsLines mid new others → ReadsLines old new (lines ++ others)
reads_on None mid new lines others first second = tt
reads_on (Some bytes) None new lines others first second = absurd first
reads_on (Some bytes) (Some left) None lines others first second = absurd second
reads_on (Some bytes) (Some left) (Some after) lines others first second =
    first ∙ ap (λ (l : List (List ℕ)). lines ++ l) second ∙ sym (append_assoc lines others (lines_in after))

-- lines were read, and then the last of them, or others
pub reads_further : (is_last : Bool) (old mid new : Option (List ℕ)) (lines others : List (List ℕ)) → ReadsLines old mid lines
    → Reads is_last mid new others → Reads is_last old new (lines ++ others)
reads_further false old mid new lines others first second = reads_on old mid new lines others first second
reads_further true None mid new lines others first second = tt
reads_further true (Some bytes) None new lines others first second = absurd first
reads_further true (Some bytes) (Some left) new lines others first second =
    first ∙ ap (λ (l : List (List ℕ)). lines ++ l) second

some_byte : (b : ℕ) (bytes : List ℕ) (t : Bool) → [] ≡ cond t (b ∷ []) (b ∷ bytes) → ⊥
some_byte b bytes true none = no_byte none
some_byte b bytes false none = no_byte none

-- lines were read, and then nothing: these were all
pub reads_end : (old mid : Option (List ℕ)) (lines : List (List ℕ)) (line : List ℕ) → ReadsLines old mid lines
    → IfSome mid (λ bytes. line ≡ take_through 10 bytes) → line ≡ [] → ReadsAll old lines
reads_end None mid lines line read is none = tt
reads_end (Some bytes) None lines line read is none = absurd read
reads_end (Some bytes) (Some []) lines line read is none = read ∙ append-nil lines
reads_end (Some bytes) (Some (b ∷ left)) lines line read is none =
    absurd (some_byte b (take_through 10 left) (b == 10) (sym none ∙ is))

-- a line that was read into none is the next one
pub into_none : (old : Option (List ℕ)) (was line : List ℕ) → was ≡ [] → IfSome old (λ bytes. line ≡ was ++ take_through 10 bytes)
    → IfSome old (λ bytes. line ≡ take_through 10 bytes)
into_none None was line none is = tt
into_none (Some bytes) was line none is = is ∙ ap (λ (l : List ℕ). l ++ take_through 10 bytes) none

-- whether a line has no byte
pub no_bytes : (line : List ℕ) (count : ℕ) (is_none : Bool) → count ≡ length line → is_none ≡ (count == 0) → is_none ≡ true
    → line ≡ []
no_bytes [] count is_none many is so = refl
no_bytes (b ∷ line) count is_none many is so = absurd (omega (arith, many, eqb-true count 0 (sym is ∙ so)))

pub some_bytes : (line : List ℕ) (count : ℕ) (is_none : Bool) → count ≡ length line → is_none ≡ (count == 0) → is_none ≡ false
    → line ≡ [] → ⊥
some_bytes line count is_none many is so none =
    true≢false (sym (eq-eqb count 0 (many ∙ ap (λ (l : List ℕ). length l) none)) ∙ sym is ∙ so)
