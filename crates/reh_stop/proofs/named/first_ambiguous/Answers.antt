-- One word more is clear.
use Rattle.std.proofs.Common.{◌≡◌, ◌∙◌, sym, subst, ℕ, List, false, arith, take_all}
use Rattle.std.specs.Borrow.{Bor}
use Rattle.std.proofs.lemmas.List.Elements.{All-more}
use Rattle.std.proofs.lemmas.Option.{slice_get-get_or}
use Rattle.reh_stop.specs.Named.{AreClear, is_ambiguous}
use Rattle.reh_stop.proofs.named.first_ambiguous.Goals as goal

pub returns-then-branch-clause-some : goal.returns-then-branch-clause-some
returns-then-branch-clause-some c = record {
  number = c.loop-word.word-index;
  is = slice_get-get_or c.args.words.now c.loop-word.word-index _ c.loop-word-test.true;
  ambiguous = sym c.in_ok-is_ambiguous.ensures ∙ c.if-branch.true;
  before = c.loop-word.invariant;
}

pub loop-word-preserved : goal.loop-word-preserved
loop-word-preserved c =
    All-more (λ (word : Bor (List ℕ)). is_ambiguous c.args.names.now word.now ≡ false) c.args.words.now c.loop-word.word-index _
    c.loop-word-test.true c.loop-word.invariant (sym c.in_ok-is_ambiguous.ensures ∙ c.if-branch.false)

pub returns-clause-none : goal.returns-clause-none
returns-clause-none c = λ _.
    subst (λ (words : List (Bor (List ℕ))). AreClear c.args.names.now words)
    (take_all c.loop-word.word-index c.args.words.now (omega (arith, c.loop-word-test.false))) c.loop-word.invariant
