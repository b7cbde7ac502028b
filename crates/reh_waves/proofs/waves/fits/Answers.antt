use Rattle.std.proofs.Common.{◌≡◌, ◌∙◌, ◌∷◌, ◌&&◌, ℕ, Bool, true, List, ap, sym, subst, arith}
use Rattle.reh_census.specs.Answers.{IsAllZero, is_yes, numbers_on}
use Rattle.reh_census.specs.Counting.{counting_in}
use Rattle.reh_waves.proofs.NearLaws.{yes-none}
use Rattle.reh_census.specs.Bookies.{bookies_of}
use Rattle.reh_census.specs.Copies.{is_in}
use Rattle.reh_census.specs.declared.answers.Answer.{Answer}
use Rattle.reh_waves.specs.Waves.{answer_in, goes, may_join}
use Rattle.reh_waves.proofs.waves.fits.Goals as goal

pub returns : goal.returns
returns c =
    let answer : (ℕ → Bool) → Answer = answer_in c.args.census.now (bookies_of c.args.bookies.now) c.args.question.now in
    let is : c.is_yes.result ≡ goes answer (is_in (c.args.bookie ∷ c.args.round.now.bookies.items)) =
    c.is_yes.ensures
    ∙ ap (λ a. is_yes a) c.in_ok-answer.ensures
    ∙ ap (λ (members : List ℕ). goes answer (is_in (c.args.bookie ∷ members))) c.deref.ensures.value in
    let joins : may_join c.args.by_rack c.args.rack c.args.round.now.rack ≡ true =
    grind (arith, c.may_join.ensures, c.if-not-may_join.false) in
    is ∙ ap (λ b. b && goes answer (is_in (c.args.bookie ∷ c.args.round.now.bookies.items))) (sym joins)

pub answer_with-requires-clause-zero : goal.answer_with-requires-clause-zero
answer_with-requires-clause-zero c =
    subst
    (λ (members : List ℕ). IsAllZero (numbers_on (counting_in c.args.census.now) (bookies_of c.args.bookies.now) c.args.question.now 0 (is_in members)))
    (sym c.deref.ensures.value)
    (yes-none c.args.census.now (bookies_of c.args.bookies.now) c.args.question.now (is_in c.args.round.now.bookies.items) c.requires.round.yes)
