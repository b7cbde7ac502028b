-- The names of one word more.
use Rattle.std.proofs.Common.{◌∙◌, ap, ℕ, List, arith, take_all}
use Rattle.std.specs.Borrow.{Bor}
use Rattle.reh_stop.specs.Named.{names_in, names_of}
use Rattle.reh_stop.proofs.WordLaws.{with_word}
use Rattle.reh_stop.proofs.named.names_in.Goals as goal

pub loop-word-preserved : goal.loop-word-preserved
loop-word-preserved c =
    with_word (λ (word : Bor (List ℕ)). names_of c.args.names.now word.now) c.args.words.now c.loop-word.word-index _ _ _
    c.loop-word-test.true c.loop-word.invariant c.in_ok-add_names.ensures

pub returns : goal.returns
returns c =
    c.loop-word.invariant
    ∙ ap (names_in c.args.names.now) (take_all c.loop-word.word-index c.args.words.now (omega (arith, c.loop-word-test.false)))
