-- The indexes at the places that are passed.
use Rattle.std.proofs.Common.{◌≡◌, ◌%◌, ◌<◌, ℕ, length, slice_index}
use Rattle.reh_stripe.proofs.rounds.Round.new.Given as goal

abbrev pub invariant-loop-place : goal.invariant-loop-place
invariant-loop-place l = record {
  whole : length l.indexes ≡ 96;
  filled : (place : ℕ) → place < l.place → slice_index l.indexes place ≡ place % l.size;
}
