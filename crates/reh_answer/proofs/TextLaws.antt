-- Texts that are added one after the other.
use Rattle.std.proofs.Common.{◌≡◌, ◌∙◌, ◌+◌, ◌-◌, ◌<◌, ◌++◌, ◌∷◌, [], ℕ, zero, suc, false, List, refl, ap, sym, arith, length, take, get_or, map, replicate, append_assoc, Result, Ok, Err, OnOk, is_ok, if◌then◌else◌}
use Rattle.std.specs.declared.alloc.AllocError.{AllocError}
use Rattle.std.specs.Prelude.{flat_map}
use Rattle.std.specs.List.{repeat}
use Rattle.std.specs.Fmt.{char_count, decimal, format_spec, padded_integral}
use Rattle.std.proofs.lemmas.List.{append-nil, take_more}
use Rattle.std.proofs.lemmas.Grind.{flat_map-append}
use Rattle.reh_census.specs.Striping.{range}
use Rattle.reh_answer.proofs.Lists.{range-more}

abbrev pub Done : Type 0
Done = Result (Unit {0}) AllocError

-- what is added before the rest
pub before : {X : Type 0} (r : Done) (end first next part rest : List X) → next ≡ first ++ part
    → OnOk r (end ≡ next ++ rest) → OnOk r (end ≡ first ++ (part ++ rest))
before (Ok u) end first next part rest added is = is ∙ ap (λ t. t ++ rest) added ∙ append_assoc first part rest
before (Err e) end first next part rest added is = is

-- what a call adds that says what it leaves
pub written : (r : Done) (end text old : List ℕ) → end ≡ (if is_ok r then text else old) → OnOk r (end ≡ text)
written (Ok u) end text old is = is
written (Err e) end text old is = tt

-- what is added is the same
pub instead : (r : Done) (end first part other : List ℕ) → part ≡ other
    → OnOk r (end ≡ first ++ part) → OnOk r (end ≡ first ++ other)
instead (Ok u) end first part other same is = is ∙ ap (λ t. first ++ t) same
instead (Err e) end first part other same is = is

spaces : (n : ℕ) → repeat {A = ℕ} n (32 ∷ []) ≡ replicate n 32
spaces zero = refl
spaces (suc n) = ap (λ t. 32 ∷ t) (spaces n)

pub cell-padded : (number : ℕ)
    → padded_integral (format_spec 32 3 0 8 18446744073709551615) false [] (decimal number)
    ≡ replicate (8 - length (decimal number)) 32 ++ decimal number
unfolding padded_integral char_count lib.Utf8.encode
cell-padded number =
    let short : 8 - length (decimal number) - 0 - 0 ≡ 8 - length (decimal number) = omega arith in
    let none : (8 - length (decimal number)) - (8 - length (decimal number)) ≡ 0 = omega arith in
    rw (short, none, spaces (8 - length (decimal number))) (simp append-nil)

-- what is printed of one more
pub printed-more : {X : Type 0} (f : X → List ℕ) (xs : List X) (i : ℕ) (x : X) → i < length xs → x ≡ get_or xs i x
    → flat_map f (take i xs) ++ f x ≡ flat_map f (take (i + 1) xs)
printed-more f xs i x within is =
    let one : flat_map f (x ∷ []) ≡ f x = append-nil (f x) in
    ap (λ ys. flat_map f (take i xs) ++ ys) (sym one)
    ∙ sym (flat_map-append f (take i xs) (x ∷ []))
    ∙ ap (λ y. flat_map f (take i xs ++ y ∷ [])) is
    ∙ ap (λ zs. flat_map f zs) (sym (take_more xs i x within))

pub range-printed : (f : ℕ → List ℕ) (n : ℕ) → flat_map f (range 0 n) ++ f n ≡ flat_map f (range 0 (n + 1))
range-printed f n =
    ap (λ ys. flat_map f (range 0 n) ++ ys) (sym (append-nil (f n)))
    ∙ sym (flat_map-append f (range 0 n) (n ∷ []))
    ∙ ap (λ ns. flat_map f ns) (sym (range-more n))

pub flat_map-map : {X : Type 0} (f : List ℕ → List ℕ) (h : X → List ℕ) (xs : List X)
    → flat_map f (map h xs) ≡ flat_map (λ x. f (h x)) xs
flat_map-map f h [] = refl
flat_map-map f h (x ∷ xs) = ap (λ ys. f (h x) ++ ys) (flat_map-map f h xs)

-- eight parts before the rest
pub eight-first : (a b c d e f g h rest : List ℕ)
    → a ++ (b ++ (c ++ (d ++ (e ++ (f ++ (g ++ (h ++ rest)))))))
    ≡ (a ++ (b ++ (c ++ (d ++ (e ++ (f ++ (g ++ h))))))) ++ rest
eight-first a b c d e f g h rest = simp append_assoc
