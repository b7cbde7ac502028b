use Rattle.std.proofs.Common.{◌≡◌, ◌∙◌, ℕ, false, true, List, get_or, take, refl, ap, sym, subst}
use Rattle.std.proofs.lemmas.Bool.{false≢true}
use Rattle.std.proofs.lemmas.List.{take_all}
use Rattle.reh_census.specs.Copies.{EachOnce, is_in}
use Rattle.reh_census.proofs.OnceLaws.{once-more, twice}
use Rattle.reh_census.proofs.ledgers.are_different.Goals as goal

pub loop-index-preserved : goal.loop-index-preserved
loop-index-preserved c =
    let names : List ℕ = c.args.names.now in
    let i : ℕ = c.loop-index.index in
    let new : is_in (take i names) (get_or names i 0) ≡ false =
    ap (λ (xs : List ℕ). is_in xs (get_or names i 0)) (sym c.split_at.ensures.front) ∙ sym c.contains.ensures.value ∙ c.if-contains.false in
    once-more names i 0 c.loop-index-test.true new c.loop-index.invariant

pub returns-then-contains : goal.returns-then-contains
returns-then-contains c =
    let names : List ℕ = c.args.names.now in
    let i : ℕ = c.loop-index.index in
    let old : is_in (take i names) (get_or names i 0) ≡ true =
    ap (λ (xs : List ℕ). is_in xs (get_or names i 0)) (sym c.split_at.ensures.front) ∙ sym c.contains.ensures.value ∙ c.if-contains.true in
    (λ told. absurd (false≢true told), λ once. absurd (twice names i 0 c.loop-index-test.true old once))

pub returns : goal.returns
returns c =
    let all : EachOnce c.args.names.now =
    subst (λ (xs : List ℕ). EachOnce xs) (take_all c.loop-index.index c.args.names.now c.loop-index-test.false) c.loop-index.invariant in
    (λ told. all, λ once. refl)
