-- Which entries of a word the indexes of an ensemble carry.
use Rattle.std.specs.Prelude.{◌≡◌, ℕ, ◌<◌, List, slice_index}
use Rattle.reh_model.specs.Striping.{is_striped}
use Rattle.reh_stripe.specs.Words.{has_bit}

-- an ensemble's size, and its write quorum
pub record Sizes : Type 0 where
  pub size : ℕ
  pub quorum : ℕ

-- the mask has a bit for each of the first 64 entries that the index carries
abbrev pub IsMask : ℕ → ℕ → ℕ → ℕ → Type 0
IsMask size quorum index mask = (entry : ℕ) → entry < 64 → has_bit mask entry ≡ is_striped entry index size quorum

-- each index of the ensemble has its mask
abbrev pub AreMasks : ℕ → ℕ → List ℕ → Type 0
AreMasks size quorum masks = (index : ℕ) → index < size → IsMask size quorum index (slice_index masks index)
