-- Words: bit i of word n stands for entry 64 n + i.
use Rattle.std.specs.Prelude.{ℕ, zero, suc, ◌+◌, ◌*◌, ◌^◌, ◌<◌, ◌≤◌, Bool, cond, ◌&&◌, ◌==◌, nat_le, List, [], ◌∷◌, ◌-◌, ◌/◌, nat_lt}
use Rattle.std.specs.Prelude.{if◌then◌else◌}
use Rattle.std.specs.Int.{bit_at}
use Rattle.std.specs.List.{flat_map}
use Rattle.reh_model.specs.Contents.{word_entries}
use Rattle.reh_stripe.specs.declared.words.Word.{Word}

-- whether the bit of the word is set
abbrev pub has_bit : ℕ → ℕ → Bool
has_bit bits bit = bit_at bits bit == 1

-- whether the entry is one from the first to the last
abbrev pub is_between : ℕ → ℕ → ℕ → Bool
is_between first last entry = nat_le first entry && nat_le entry last

-- the number with a bit for each of so many entries, from that one on, that passes the test
unfoldable pub bits_from : (ℕ → Bool) → ℕ → ℕ → ℕ
bits_from test entry zero = 0
bits_from test entry (suc n) = cond (test entry) 1 0 + 2 * bits_from test (entry + 1) n

-- the entries of a word that pass the test
abbrev pub word_of : (ℕ → Bool) → ℕ → Word
word_of test number = record { number = number; bits = bits_from test (64 * number) 64 }

-- the entries that a word stands for, rising
unfoldable pub entries_in : Word → List ℕ
entries_in w = word_entries w.number w.bits

-- those that the words stand for
abbrev pub entries_of : List Word → List ℕ
entries_of words = flat_map entries_in words

-- the words' numbers rise, from that one on, and are those of words that there can be
abbrev pub AreRising : ℕ → List Word → Type 0
AreRising k [] = Unit {0}
AreRising k (w ∷ ws) = (k ≤ w.number) × (w.number < 2 ^ 26) × AreRising (w.number + 1) ws

-- one past the last word of the entries from the first up to, not including, the stop
abbrev pub end_word : ℕ → ℕ → ℕ
end_word first stop = if nat_lt first stop then (stop - 1) / 64 + 1 else first / 64
