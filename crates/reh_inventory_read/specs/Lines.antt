-- The lines of an inventory's bytes, and what a reader has left after some of them.
use Rattle.std.specs.Prelude.{◌≡◌, ℕ, ◌==◌, Bool, true, false, List, [], ◌∷◌, ◌++◌, Option, IfSome, if◌then◌else◌}
use Rattle.std.specs.List.{onto_first}
use Rattle.std.specs.Option.{IsSomeAnd}

-- the lines of some bytes, each with the LF that ends it; only the last may have none
abbrev pub lines_in : List ℕ → List (List ℕ)
lines_in [] = []
lines_in (b ∷ bs) = if b == 10 then (b ∷ []) ∷ lines_in bs else onto_first b (lines_in bs)

-- where it is known which bytes a reader had left, these lines are the first of them, and it has the others left
abbrev pub ReadsLines : Option (List ℕ) → Option (List ℕ) → List (List ℕ) → Type 0
ReadsLines old new lines = IfSome old (λ before. IsSomeAnd new (λ after. lines_in before ≡ lines ++ lines_in after))

-- they are all of them
abbrev pub ReadsAll : Option (List ℕ) → List (List ℕ) → Type 0
ReadsAll old lines = IfSome old (λ bytes. lines_in bytes ≡ lines)

-- they are all of them if no line comes after them, and the first of them in any case
abbrev pub Reads : Bool → Option (List ℕ) → Option (List ℕ) → List (List ℕ) → Type 0
Reads false old new lines = ReadsLines old new lines
Reads true old new lines = ReadsAll old lines
