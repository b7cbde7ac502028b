-- What is made of the lines of an inventory, one after the other.
use Rattle.std.specs.Prelude.{ℕ, Bool, List, Option, map}
use Rattle.std.specs.Option.{IsSomeAnd}
use Rattle.reh_inventory_read.specs.Lines.{Reads}
use Rattle.reh_inventory_read.specs.declared.passes.MadeLine.{MadeLine}

-- the bytes of lines
abbrev pub bytes_of : {M : Type 0} → List (MadeLine M) → List (List ℕ)
bytes_of lines = map (λ l. l.bytes.items) lines

-- it is there what is made of the line by itself
abbrev pub IsMade : {M : Type 0} → (List ℕ → M → Type 0) → MadeLine M → Type 0
IsMade is_made line = IsSomeAnd line.made (is_made line.bytes.items)

-- the next lines that a reader had left were added; all that it had left, if these are the last
pub record AddsRead {P : Type 0} (adds : List (List ℕ) → P → P → Type 0) (is_last : Bool) (old new : Option (List ℕ)) (one other : P) : Type 0 where
  pub lines : List (List ℕ)
  pub added : adds lines one other
  pub read : Reads is_last old new lines
