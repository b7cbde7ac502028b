-- Lists of values that grow by one, and lists that are read by their places.
use Rattle.std.proofs.Common.{◌≡◌, ℕ, zero, suc, ◌+◌, ◌<◌, List, [], ◌∷◌, ◌++◌, map, length, take, get_or, refl, sym, subst, ap, ◌∙◌, arith, All}
use Rattle.std.proofs.lemmas.List.{map-append, take_more}
use Rattle.std.proofs.lemmas.List.Elements.{All-append, All-cons, All-nil}
use Rattle.std.specs.List.{range_with_len}
use Rattle.serde_json.specs.Data.{Data}
use Rattle.serde_json.specs.View.{view}
use Rattle.serde_json.specs.declared.value.Value.{Value}
use Rattle.reh_picture.proofs.Lists.{passed_to}

-- one value more is made, of the element at the place
pub made_more : {A : Type 0} (f : A → Data) (xs : List A) (i : ℕ) (x : A) → i < length xs → x ≡ get_or xs i x
    → (vs : List Value) (v : Value) → map view vs ≡ map f (take i xs) → view v ≡ f x
    → map view (vs ++ v ∷ []) ≡ map f (take (i + 1) xs)
made_more f xs i x within is vs v so_far made =
    map-append view vs (v ∷ []) ∙ (λ j. so_far j ++ made j ∷ []) ∙ sym (passed_to f xs i x within is)

-- what is read at each place from the first to the last is the list
pub read_all : {A : Type 0} (xs : List A) (a : ℕ) (g : ℕ → A) (d : A)
    → ((i : ℕ) → i < length xs → g (a + i) ≡ get_or xs i d) → map g (range_with_len a (length xs)) ≡ xs
read_all [] a g d each = refl
read_all (x ∷ xs) a g d each =
    let here : a + 0 ≡ a = omega arith in
    (λ j. (ap g (sym here) ∙ each 0 (omega arith)) j
    ∷ read_all xs (a + 1) g d (λ i within.
    let there : (a + 1) + i ≡ a + suc i = omega arith in ap g there ∙ each (suc i) (omega arith)) j)

-- what is made of what was made
pub map-map : {A B C : Type 0} (g : B → C) (f : A → B) (xs : List A) → map g (map f xs) ≡ map (λ x. g (f x)) xs
map-map g f [] = refl
map-map g f (x ∷ xs) = ap (λ ys. g (f x) ∷ ys) (map-map g f xs)

-- what is made alike
pub map-same : {A B : Type 0} (f g : A → B) → ((x : A) → f x ≡ g x) → (xs : List A) → map f xs ≡ map g xs
map-same f g each [] = refl
map-same f g each (x ∷ xs) = λ j. each x j ∷ map-same f g each xs j

-- the same element is read with another default
read_same : {A : Type 0} (xs : List A) (i : ℕ) (d e : A) → i < length xs → get_or xs i d ≡ get_or xs i e
read_same [] i d e within = absurd (omega arith)
read_same (x ∷ xs) zero d e within = refl
read_same (x ∷ xs) (suc i) d e within = read_same xs i d e (omega arith)

-- one value more is made, of what is read at the place
pub made_there : {A : Type 0} (f : A → Data) (xs : List A) (i : ℕ) (d : A) → i < length xs
    → (vs : List Value) (v : Value) → map view vs ≡ map f (take i xs) → view v ≡ f (get_or xs i d)
    → map view (vs ++ v ∷ []) ≡ map f (take (i + 1) xs)
made_there f xs i d within vs v so_far made =
    made_more f xs i (get_or xs i d) within (read_same xs i d (get_or xs i d) within) vs v so_far made

-- what holds of those that are passed and of the next one holds of one more
pub all-more : {A : Type 0} (P : A → Type 0) (xs : List A) (i : ℕ) (x : A) → i < length xs → x ≡ get_or xs i x
    → All P (take i xs) → P x → All P (take (i + 1) xs)
all-more P xs i x within is so_far one =
    subst (All P) (sym (take_more xs i x within ∙ (λ j. take i xs ++ sym is j ∷ [])))
    (All-append P (take i xs) (x ∷ []) so_far (All-cons P x [] one (All-nil P)))
