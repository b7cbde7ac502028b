-- The words of striped entries that are left.
use Rattle.std.specs.Prelude.{◌≡◌, ℕ, ◌+◌, ◌*◌, ◌%◌, ◌<◌, ◌≤◌, Bool, ◌&&◌, List, map}
use Rattle.reh_types.specs.declared.limits.TheConstants.{MAX_ENSEMBLE_SIZE}
use Rattle.reh_model.specs.Striping.{is_striped, range}
use Rattle.reh_stripe.specs.Words.{is_between, word_of}
use Rattle.reh_stripe.specs.declared.words.Word.{Word}
use Rattle.reh_stripe.specs.declared.striped_words.StripedWords.TheInside.{Inside}

-- whether the entry is in the range, and the index carries it
abbrev pub is_carried : Inside → ℕ → Bool
is_carried a entry = is_between a.first a.last entry && is_striped entry a.index a.masks.size a.masks.quorum

-- the words that are left
abbrev pub words_left : Inside → List Word
words_left a = map (word_of (is_carried a)) (range a.number a.end)

-- the words that are left are some of those from the first entry to the last
pub record IsWithin (a : Inside) : Type 0 where
  pub from : a.first < 64 * a.number + 64
  pub to : a.number < a.end → 64 * a.end ≤ a.last + 64
  pub index : a.number < a.end → a.index < a.masks.size
  pub start : a.start ≡ (64 * a.number) % a.masks.size
  pub step : a.step ≡ 64 % a.masks.size
  pub size : a.size ≡ a.masks.size
  pub some : 1 ≤ a.size
  pub small : a.size ≤ MAX_ENSEMBLE_SIZE
