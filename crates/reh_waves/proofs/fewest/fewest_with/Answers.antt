use Rattle.std.proofs.Common.{◌∙◌, ◌<◌, ◌++◌, ◌∷◌, [], ℕ, List, ap, sym, subst, length, arith}
use Rattle.reh_census.specs.Counting.{count_in}
use Rattle.reh_waves.specs.Fewest.{IsFewest, how_many, least_of}
use Rattle.reh_waves.proofs.FewestLaws.{fewest-counted}
use Rattle.reh_waves.proofs.fewest.fewest_with.Goals as goal

pub returns : goal.returns
returns c entries are =
    let known : 0 < length c.args.counted.now.class.known =
    omega (arith, ap (λ (xs : List ℕ). length xs) c.as_slice-known.ensures, c.if-known-eq0.false) in
    subst (λ (n : ℕ). IsFewest (count_in (entries ++ c.args.counted.now ∷ [])) n)
    (sym
    (c.least_of.ensures
    ∙ ap (λ (n : ℕ). least_of c.args.fewest n) (c.how_many.ensures ∙ ap (λ (xs : List ℕ). how_many xs) c.as_slice-known.ensures)))
    (fewest-counted entries c.args.counted.now c.args.fewest (omega (arith, c.if-counted-eq0.false)) known are)
