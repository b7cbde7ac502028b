-- Tails are well-formed by other numbers, too.
use Rattle.std.proofs.Common.{◌∙◌, ℕ, All, List, ◌++◌, map}
use Rattle.std.proofs.lemmas.List.{length-map}
use Rattle.std.proofs.lemmas.List.Elements.{All-append, All-map}
use Rattle.reh_census.specs.declared.censuses.CountedTail.{CountedTail}
use Rattle.reh_census.specs.declared.censuses.Tail.{Tail}
use Rattle.reh_census.specs.Tails.{IsTail}
use Rattle.reh_inputs.specs.Ledgers.{number_in}
use Rattle.reh_inputs.specs.Renumbered.{counted_tail_by, tail_by}

IsTail-by : (numbers : List ℕ) (tail : Tail) → IsTail tail → IsTail (tail_by numbers tail)
IsTail-by numbers tail is = record {
  some_acks = is.some_acks;
  acks_within = is.acks_within;
  writes_within = is.writes_within;
  small = is.small;
  whole = length-map tail.ensemble (number_in numbers) ∙ is.whole;
}

pub IsTail-added : (numbers : List ℕ) (before counted : List CountedTail)
    → All (λ (t : CountedTail). IsTail t.tail) before → All (λ (t : CountedTail). IsTail t.tail) counted
    → All (λ (t : CountedTail). IsTail t.tail) (before ++ map (counted_tail_by numbers) counted)
IsTail-added numbers before counted all each =
    All-append (λ (t : CountedTail). IsTail t.tail) before (map (counted_tail_by numbers) counted) all
    (All-map (λ (t : CountedTail). IsTail t.tail) (counted_tail_by numbers) counted
    (λ k d below. IsTail-by numbers _ (each k d below)))
