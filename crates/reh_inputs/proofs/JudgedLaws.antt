-- What was judged of some inputs is no more than what was judged of more.
use Rattle.std.proofs.Common.{◌≡◌, ◌∙◌, ◌<◌, ◌+◌, ℕ, List, [], ◌∷◌, fold, length, get_or, take, drop, ap, sym, subst, arith}
use Rattle.std.proofs.lemmas.List.{take-append-drop}
use Rattle.std.proofs.lemmas.List.Sums.{fold-append, fold_more}
use Rattle.reh_census.specs.declared.censuses.Judged.{Judged}
use Rattle.reh_census.specs.Counting.{judged_sum}
use Rattle.reh_inputs.specs.declared.inputs.Input.{Input}
use Rattle.reh_inputs.specs.declared.inputs.Input.TheVariants.{Picture, Census}
use Rattle.reh_inputs.specs.Renumbered.{with_judged}
use Rattle.reh_inputs.specs.Uncounted.{IsFewJudged}

pub few-one : (one other : Judged) → IsFewJudged (judged_sum one other) → IsFewJudged one
few-one one other are = record {
  ledgers = omega (arith, are.ledgers);
  assumed = omega (arith, are.assumed);
  not_judged = omega (arith, are.not_judged);
}

pub few-other : (one other : Judged) → IsFewJudged (judged_sum one other) → IsFewJudged other
few-other one other are = record {
  ledgers = omega (arith, are.ledgers);
  assumed = omega (arith, are.assumed);
  not_judged = omega (arith, are.not_judged);
}

few-first : (judged : Judged) (inputs : List Input) → IsFewJudged (fold with_judged judged inputs) → IsFewJudged judged
few-first judged [] are = are
few-first judged (Picture l ∷ inputs) are = few-first judged inputs are
few-first judged (Census c ∷ inputs) are =
    few-one judged c.census.judged (few-first (judged_sum judged c.census.judged) inputs are)

few-taken : (judged : Judged) (inputs : List Input) (n : ℕ) → IsFewJudged (fold with_judged judged inputs)
    → IsFewJudged (fold with_judged judged (take n inputs))
few-taken judged inputs n are =
    few-first (fold with_judged judged (take n inputs)) (drop n inputs)
    (subst IsFewJudged
    (sym (ap (fold with_judged judged) (take-append-drop n inputs)) ∙ fold-append with_judged judged (take n inputs) (drop n inputs))
    are)

-- with one input more
pub few-more : (start judged : Judged) (inputs : List Input) (k : ℕ) (one : Input) → k < length inputs → one ≡ get_or inputs k one
    → judged ≡ fold with_judged start (take k inputs) → IsFewJudged (fold with_judged start inputs)
    → IsFewJudged (with_judged judged one)
few-more start judged inputs k one within is same are =
    subst IsFewJudged
    (fold_more with_judged start inputs k one within
    ∙ (λ i. with_judged (sym same i) (sym is i)))
    (few-taken start inputs (k + 1) are)
