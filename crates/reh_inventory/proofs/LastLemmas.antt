-- The last of a list's elements, after one more, and lists of fewer than two.
use Rattle.std.proofs.Common.{◌≡◌, ◌+◌, ◌<◌, List, [], ◌∷◌, ◌++◌, length, Option, None, Some, refl, ap, arith}
use Rattle.std.specs.List.{last_or}
use Rattle.std.specs.Option.{option_map_or}
use Rattle.serde_json.specs.Data.{Data}
use Rattle.reh_inventory_fields.specs.declared.fields.Field.{Field}
use Rattle.reh_inventory_fields.specs.declared.fields.Field.TheVariants as field
use Rattle.reh_inventory_fields.specs.declared.members.TheConstants.{MAX_NUMBER}
use Rattle.reh_inventory_fields.specs.Members.{number_of}
use Rattle.reh_inventory.specs.Contents.{two_numbers, ends_of, next_after}
use Rattle.reh_inventory.specs.Ledgers.{bounds_after}

last_or-push : {A : Type 0} (o : Option A) (xs : List A) (x : A) → last_or o (xs ++ x ∷ []) ≡ Some x
last_or-push o [] x = refl
last_or-push o (y ∷ xs) x = last_or-push (Some y) xs x

-- a range may begin past the one before it
pub next_after-push : (list : Field) (ds : List Data) (d : Data) → next_after list (ds ++ d ∷ []) ≡ (ends_of list d).1 + 1
next_after-push list ds d = ap (λ last. option_map_or (λ e. (ends_of list e).1 + 1) last 0) (last_or-push None ds d)

-- and a fragment past the beginning of the one before it
pub bounds_after-push : (ds : List Data) (d : Data)
    → bounds_after (ds ++ d ∷ []) ≡ (number_of d field.FirstEntry + 1, MAX_NUMBER)
bounds_after-push ds d =
    ap (λ last. option_map_or (λ e. (number_of e field.FirstEntry + 1, MAX_NUMBER)) last (0, 0)) (last_or-push None ds d)

pub two_numbers-short : (ds : List Data) → length ds < 2 → None ≡ two_numbers ds
two_numbers-short [] few = refl
two_numbers-short (a ∷ []) few = refl
two_numbers-short (a ∷ b ∷ ds) few = absurd (omega arith)
