use Rattle.reh_census.specs.Copies.{is_in}
use Rattle.std.specs.Prelude.{◌==◌}
use Rattle.reh_census.specs.Answers.{answer_by}
use Rattle.reh_census.specs.declared.answers.Numbers.{Numbers}
use Rattle.std.proofs.Common.{◌≡◌, ◌||◌, ◌∷◌, true, false, [], refl, ◌∙◌, ◌<◌, ℕ, Bool, All, ap, sym, subst, arith}
use Rattle.reh_census.specs.Bookies.{bookies_of}
use Rattle.reh_waves.specs.Waves.{answer_in}
use Rattle.reh_waves.proofs.SetLaws.{all-within, registered-within}
use Rattle.reh_waves.proofs.waves.answer_with.Goals as goal

later : (new here : Bool) → here ≡ true → (new || here) ≡ true
later true here is = refl
later false here is = is

turned : (new here : Bool) → (new || here) ≡ true → (here || (new || false)) ≡ true
turned true true is = refl
turned true false is = refl
turned false true is = refl
turned false false is = is

pub set_of-requires-clause-members : goal.set_of-requires-clause-members
set_of-requires-clause-members c =
    subst (λ (n : ℕ). All (λ b. b < n) c.args.members.now) (sym c.count.ensures.count)
    (all-within c.args.bookies.now c.args.members.now c.requires.members)

pub set_of-requires-clause-bookie : goal.set_of-requires-clause-bookie
set_of-requires-clause-bookie c = omega (arith, c.count.ensures.count, registered-within c.args.bookies.now c.args.bookie c.requires.bookie)

pub numbers_near-numbers-requires-clause-enough : goal.numbers_near-numbers-requires-clause-enough
numbers_near-numbers-requires-clause-enough c = record {
  base = is_in c.args.members.now;
  among = is_in (c.args.bookie ∷ []);
  near_is = c.requires.near;
  part = λ b inside. c.in_ok-stopped.ensures b ∙ later (c.args.bookie == b) (is_in c.args.members.now b) inside;
  within = λ b inside.
      turned (c.args.bookie == b) (is_in c.args.members.now b) (sym (c.in_ok-stopped.ensures b) ∙ inside);
  zero = c.requires.zero;
}

pub returns : goal.returns
returns c =
    c.answer_by.ensures
    ∙ ap (λ (n : Numbers). answer_by n) c.numbers_near-numbers.ensures
    ∙ ap (λ (s : ℕ → Bool). answer_in c.args.census.now (bookies_of c.args.bookies.now) c.args.question.now s)
    (λ i b. c.in_ok-stopped.ensures b i)

pub numbers_near-numbers-requires-clause-largest : goal.numbers_near-numbers-requires-clause-largest
numbers_near-numbers-requires-clause-largest c = c.requires.largest

pub numbers_near-numbers-requires-clause-well_formed : goal.numbers_near-numbers-requires-clause-well_formed
numbers_near-numbers-requires-clause-well_formed c = c.requires.well_formed
