-- It is what stands before the first LF, or all of it.
use Rattle.std.proofs.Common.{◌≡◌, ◌≤◌, ◌==◌, ℕ, List, Some, None, ap, arith, length, nat_lt, position, sym, take, take_all}
use Rattle.std.proofs.lemmas.Option.{cond_some}
use Rattle.std.specs.List.{before_first, position_or_len}
use Rattle.reh_questions.proofs.mistaken.first_line.Goals as goal

before_some : (xs : List ℕ) (i : ℕ) → Some i ≡ position (λ b. b == 10) xs → take i xs ≡ before_first (λ b. b == 10) xs
before_some xs i found =
    let n : ℕ = position_or_len (λ b. b == 10) xs in
    let both = cond_some (nat_lt n (length xs)) n i (sym found) in
    ap (λ k. take k xs) (sym both.1)

before_none : (xs : List ℕ) → None ≡ position (λ b. b == 10) xs → xs ≡ before_first (λ b. b == 10) xs
before_none xs none =
    let n : ℕ = position_or_len (λ b. b == 10) xs in
    let long : length xs ≤ n = grind (arith, none) in
    sym (take_all n xs long)

pub returns-in-Some : goal.returns-in-Some
returns-in-Some c = before_some c.args.bytes.now c.in-Some.end c.in-Some.ensures

pub returns-in-None : goal.returns-in-None
returns-in-None c = before_none c.args.bytes.now c.in-None.ensures
