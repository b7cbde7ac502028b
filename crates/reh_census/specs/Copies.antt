-- What is known of an entry's copies.
use Rattle.std.specs.Prelude.{◌≡◌, ℕ, ◌<◌, ◌≤◌, Bool, true, not, ◌==◌, nat_lt, List, [], ◌∷◌, ◌++◌, count_by}
use Rattle.std.specs.List.{filter, list_any}
use Rattle.reh_census.specs.declared.classes.Class.{Class}

-- the bookies that have a copy, if of the untold just those hold one that pass the test: a completion
abbrev pub completion : Class → (ℕ → Bool) → List ℕ
completion class holds = class.known ++ filter holds class.untold

-- the completion that is best where these bookies are stopped: the others of the untold hold the entry
abbrev pub best : (ℕ → Bool) → Class → List ℕ
best stopped class = completion class (λ b. not (stopped b))

-- and the worst: just the stopped ones hold it
abbrev pub worst : (ℕ → Bool) → Class → List ℕ
worst stopped class = completion class stopped

-- how many of these copies are left where the bookies that pass the test are stopped
abbrev pub left : (ℕ → Bool) → List ℕ → ℕ
left stopped copies = count_by (λ b. not (stopped b)) copies

-- each bookie that passes the first test passes the second
abbrev pub IsPart : (ℕ → Bool) → (ℕ → Bool) → Type 0
IsPart part whole = (b : ℕ) → part b ≡ true → whole b ≡ true

-- whether the bookie is one of these
abbrev pub is_in : List ℕ → ℕ → Bool
is_in names b = list_any (λ name. name == b) names

-- each number is less than those after it
abbrev pub Above : ℕ → List ℕ → Type 0
Above x [] = Unit {0}
Above x (y ∷ ys) = (x < y) × Above x ys

abbrev pub Rising : List ℕ → Type 0
Rising [] = Unit {0}
Rising (x ∷ xs) = Above x xs × Rising xs

-- no bookie is one of these twice
abbrev pub EachOnce : List ℕ → Type 0
EachOnce names = (b : ℕ) → count_by (λ name. name == b) names ≤ 1

-- the names with one more, in its place
abbrev pub placed : List ℕ → ℕ → List ℕ
placed names name = filter (λ other. nat_lt other name) names ++ name ∷ filter (λ other. nat_lt name other) names

-- the names in rising order, each once
abbrev pub in_order : List ℕ → List ℕ
in_order [] = []
in_order (name ∷ names) = placed (in_order names) name
