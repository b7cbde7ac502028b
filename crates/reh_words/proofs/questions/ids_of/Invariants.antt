-- The ids that the words say which are passed.
use Rattle.std.proofs.Common.{◌≡◌, ℕ, List, map, take}
use Rattle.std.specs.Borrow.{Bor}
use Rattle.reh_words.specs.Asked.{id_of}
use Rattle.reh_words.proofs.questions.ids_of.Given as goal

abbrev pub invariant-loop-word : goal.invariant-loop-word
invariant-loop-word l =
    l.ids.items ≡ map id_of (map (λ (word : Bor (List ℕ)). word.now) (take l.word-index l.words))
