-- What the arguments of `cut` say.
use Rattle.std.proofs.Common.{◌≡◌, map, refl, subst, sym, ℕ, Global, Vec}
use Rattle.std.specs.Prelude.{Option, IfSome, codes}
use Rattle.reh_words.specs.Asked.{id_of, words_of}
use Rattle.reh_words.proofs.questions.asked_cut.Goals as goal

pub returns-in-Some-Some : goal.returns-in-Some-Some
returns-in-Some-Some c =
    let P : Option (Vec ℕ Global) → Type 0 =
    λ read. IfSome read (λ ids. ids.items ≡ map id_of (words_of c.args.given.now (codes "ledgers"))) in (
      refl,
      record {
        reads = sym c.in-Some-Some.ensures;
        ledgers = subst P c.in-Some-Some.is-1 c.in_ok-ledgers.ensures;
        held = c.is_given.ensures;
        empty = c.is_given-in-Some-Some.ensures;
        has_window = c.number_of.ensures;
      },
    )
