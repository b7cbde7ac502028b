-- Losses by their numbers.
use Rattle.std.proofs.Common.{◌≡◌, ◌∙◌, ◌<◌, ◌+◌, ◌++◌, ◌∷◌, [], ℕ, List, map, take, get_or, length, sym}
use Rattle.std.specs.Prelude.{String}
use Rattle.std.specs.declared.alloc.Global.{Global}
use Rattle.reh_waves.specs.Orders.{comes_before, name_at}
use Rattle.std.specs.Cmp.{IsStrictWeakOrder}
use Rattle.std.specs.Cmp.Lexicographic.{slice_cmp}
use Rattle.std.specs.Ordering.{is_lt, nat_cmp}
use Rattle.std.proofs.lemmas.Cmp.{nat_list_cmp_total}
use Rattle.std.proofs.lemmas.List.Sorted.{IsStrictWeakOrder-flip, ranks_by}
use Rattle.std.proofs.lemmas.List.{map_more}
use Rattle.reh_census.specs.Answers.{numbers_on}
use Rattle.reh_census.specs.Bookies.{Bookies}
use Rattle.reh_census.specs.Counting.{Counting}
use Rattle.reh_census.specs.declared.answers.Numbers.{Numbers}
use Rattle.reh_census.specs.declared.questions.Question.{Question}
use Rattle.reh_waves.specs.Losses.{is_worse, loss_on, stopped_by, weights}
use Rattle.reh_waves.specs.declared.losses.Lost.{Lost}
use Rattle.reh_waves.specs.declared.losses.Loss.{Loss}

pub worse-orders : IsStrictWeakOrder is_worse
worse-orders =
    IsStrictWeakOrder-flip (λ (one other : Loss). is_lt (slice_cmp nat_cmp (weights one.numbers) (weights other.numbers)))
    (ranks_by nat_list_cmp_total (λ (loss : Loss). weights loss.numbers))

-- one loss more
pub loss-more : (counting : Counting) (bookies : Bookies) (question : Question) (not_judged : ℕ) (lost : List Lost) (k : ℕ) (d : Lost) (losses : List Loss) (numbers : Numbers)
    → k < length lost
    → losses ≡ map (loss_on counting bookies question not_judged) (take k lost)
    → numbers ≡ numbers_on counting bookies question not_judged (stopped_by bookies (get_or lost k d))
    → losses ++ record { lost = get_or lost k d; numbers = numbers } ∷ [] ≡ map (loss_on counting bookies question not_judged) (take (k + 1) lost)
loss-more counting bookies question not_judged lost k d losses numbers below were are =
    (λ i. were i ++ record { lost = get_or lost k d; numbers = are i } ∷ [])
    ∙ sym (map_more (loss_on counting bookies question not_judged) lost k d below)

pub names-order : (names : List (String Global)) → IsStrictWeakOrder (comes_before names)
names-order names = ranks_by nat_list_cmp_total (name_at names)
