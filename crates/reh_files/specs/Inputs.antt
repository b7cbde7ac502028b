-- What is read of an input's file.
use Rattle.std.specs.Prelude.{⊤, ℕ, List}
use Rattle.std.specs.Io.{StartsWith}
use Rattle.reh_files.specs.declared.files.InputBytes.{InputBytes}
use Rattle.reh_files.specs.declared.files.InputBytes.TheVariants.{Inventory, Stream, Whole}

-- an inventory of which this was read: its file, or, where it can be read only once, its bytes, which begin so
abbrev pub IsInventoryFrom : List ℕ → InputBytes → Type 0
IsInventoryFrom start (Whole bytes) = ⊥
IsInventoryFrom start (Inventory file) = ⊤
IsInventoryFrom start (Stream bytes) = StartsWith bytes.items start

-- the bytes of an inventory that can be read only once begin so
abbrev pub IsInputFrom : List ℕ → InputBytes → Type 0
IsInputFrom start (Whole bytes) = ⊤
IsInputFrom start (Inventory file) = ⊤
IsInputFrom start (Stream bytes) = StartsWith bytes.items start
