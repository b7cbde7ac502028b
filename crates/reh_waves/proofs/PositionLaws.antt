-- The first element that passes a test.
use Rattle.std.proofs.Common.{◌≡◌, ◌∙◌, ◌<◌, ◌≤◌, ℕ, Bool, true, false, cond, List, [], ◌∷◌, Option, Some, None, length, get_or, refl, ap, nat_lt, arith}
use Rattle.std.specs.Prelude.{position}
use Rattle.std.specs.List.{position_or_len}
use Rattle.std.proofs.lemmas.Bool.Decides.{nat_tests}
use Rattle.std.proofs.lemmas.List.Sums.{fails_before_first, position_or_len_is}

within : (n m : ℕ) → n < m → nat_lt n m ≡ true
within n m below = grind (arith, nat_tests)

past : (n m : ℕ) → m ≤ n → nat_lt n m ≡ false
past n m above = grind (arith, nat_tests)

pub position-found : {X : Type 0} (p : X → Bool) (xs : List X) (i : ℕ) (d : X) → i < length xs
    → ((k : ℕ) → k < i → p (get_or xs k d) ≡ false) → p (get_or xs i d) ≡ true → position p xs ≡ Some i
position-found {X} p xs i d below fails passes =
    let at : position_or_len p xs ≡ i = position_or_len_is p xs i d (omega (arith, below)) fails (λ _. passes) in
    ap (λ (n : ℕ). cond {A = Option ℕ} (nat_lt n (length xs)) (Some n) None) at
    ∙ ap (λ (b : Bool). cond {A = Option ℕ} b (Some i) None) (within i (length xs) below)

pub position-missing : {X : Type 0} (p : X → Bool) (xs : List X)
    → ((k : ℕ) (d : X) → k < length xs → p (get_or xs k d) ≡ false) → position p xs ≡ None
position-missing p [] fails = refl
position-missing {X} p (x ∷ xs) fails =
    let at : position_or_len p (x ∷ xs) ≡ length (x ∷ xs) =
    position_or_len_is p (x ∷ xs) (length (x ∷ xs)) x (omega arith) (λ k below. fails k x below) (λ below. absurd (omega (arith, below))) in
    ap (λ (n : ℕ). cond {A = Option ℕ} (nat_lt n (length (x ∷ xs))) (Some n) None) at
    ∙ ap (λ (b : Bool). cond {A = Option ℕ} b (Some (length (x ∷ xs))) None) (past (length (x ∷ xs)) (length (x ∷ xs)) (omega arith))

none_by : (n m : ℕ) (b : Bool) → nat_lt n m ≡ b → ◌≡◌ {A = Option ℕ} (cond b (Some n) None) None → m ≤ n
none_by n m true is none = cc
none_by n m false is none = grind (arith, nat_tests)

pub position-none : {X : Type 0} (p : X → Bool) (xs : List X) → position p xs ≡ None
    → (k : ℕ) (d : X) → k < length xs → p (get_or xs k d) ≡ false
position-none p xs none k d below =
    let all : length xs ≤ position_or_len p xs = none_by (position_or_len p xs) (length xs) (nat_lt (position_or_len p xs) (length xs)) refl none in
    fails_before_first p xs k d (omega (arith, all, below))
