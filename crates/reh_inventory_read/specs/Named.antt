-- The names of the bookies that the lines of an inventory name.
use Rattle.std.specs.Prelude.{◌≡◌, ℕ, List, [], Option, Result, Ok, IfOk, fold, map, IsPermutation, IsSorted}
use Rattle.std.specs.Cmp.Lexicographic.{slice_cmp}
use Rattle.std.specs.Ordering.{nat_cmp}
use Rattle.reh_inventory.specs.declared.lines.Line.{Line}
use Rattle.reh_inventory.specs.Lines.{located_line_of}
use Rattle.reh_inventory_census.specs.Numbers.{with_line}
use Rattle.reh_inventory_read.specs.Lines.{ReadsAll}

-- the bytes say what was parsed
abbrev pub IsParsed : {E : Type 0} → List ℕ → Result Line E → Type 0
IsParsed bytes parsed = IfOk parsed (λ line. located_line_of bytes ≡ Ok line)

-- the names that these lines name, after others: each once, as the last when it comes first
abbrev pub with_lines : List (List ℕ) → List Line → List (List ℕ)
with_lines names lines = fold with_line names lines

-- these lines say something, and the names that they name came to others
pub record AddsNames (lines old new : List (List ℕ)) : Type 0 where
  pub said : List Line
  pub are_read : map located_line_of lines ≡ map Ok said
  pub names : new ≡ with_lines old said

-- They are the names of the bookies that some lines name, each once and in the order of their bytes. If it is known which bytes the
-- reader had left, these are all their lines.
pub record IsOfNames (left : Option (List ℕ)) (names : List (List ℕ)) : Type 0 where
  pub lines : List (List ℕ)
  pub all : ReadsAll left lines
  pub said : List Line
  pub are_read : map located_line_of lines ≡ map Ok said
  pub same : IsPermutation (with_lines [] said) names
  pub in_order : IsSorted (slice_cmp nat_cmp) names
