-- Each call gives the next word, with a bit for each of the range's entries that the index carries.
use Rattle.std.proofs.Common.{◌≡◌, ◌∙◌, ◌+◌, ◌*◌, ◌%◌, ◌^◌, ◌<◌, ◌&&◌, ℕ, Bool, true, false, List, ◌∷◌, map, length, refl, ap, sym, arith}
use Rattle.std.specs.Prelude.{bit_and}
use Rattle.std.proofs.lemmas.Nat.{mod_below, and_le_l}
use Rattle.reh_model.specs.Striping.{is_striped, range}
use Rattle.reh_model.proofs.StripingLaws.{range-cons}
use Rattle.reh_stripe.specs.declared.words.Word.{Word}
use Rattle.reh_stripe.specs.Words.{is_between, word_of}
use Rattle.reh_stripe.specs.Left.{is_carried}
use Rattle.reh_stripe.proofs.MaskLaws.{start-next}
use Rattle.reh_stripe.proofs.WordLaws.{word_of-bits, has_bit-and}
use Rattle.reh_stripe.proofs.striped_words.StripedWordsIterator.next.Goals as goal

pub returns-clause-steps : goal.returns-clause-steps
returns-clause-steps c =
    let s = c.self.inside in
    let carried : ℕ = c.carried-carried.result in
    let between : ℕ = c.bits_between.result in
    let fits : bit_and carried between < 2 ^ 64 = omega (arith, c.carried-carried.type_inv, and_le_l carried between) in
    let word : word_of (is_carried s) s.number ≡ record { number = s.number; bits = bit_and carried between } =
    word_of-bits (is_carried s) s.number (bit_and carried between) fits (λ i inside.
    has_bit-and carried between i
    ∙ (λ j. c.carried-carried.ensures s.number i c.self.invariant.start inside j && c.bits_between.ensures i inside j)
    ∙ turn (is_striped (64 * s.number + i) s.index s.masks.size s.masks.quorum) (is_between s.first s.last (64 * s.number + i))) in
    sym c.self.view_is
    ∙ ap (λ (ns : List ℕ). map (word_of (is_carried s)) ns) (range-cons s.number s.end (omega arith))
    ∙ ap (λ w. w ∷ map (word_of (is_carried s)) (range (s.number + 1) s.end)) word where
      turn : (a b : Bool) → (a && b) ≡ (b && a)
      turn true true = refl
      turn true false = refl
      turn false true = refl
      turn false false = refl

pub returns-clause-goes : goal.returns-clause-goes
returns-clause-goes c =
    let s = c.self.inside in
    let steps : c.args.self.now
    ≡ word_of (is_carried s) s.number ∷ map (word_of (is_carried s)) (range (s.number + 1) s.end) =
    sym c.self.view_is
    ∙ ap (λ (ns : List ℕ). map (word_of (is_carried s)) ns) (range-cons s.number s.end (omega arith)) in
    let lengths = ap (λ (ws : List Word). length ws) steps in
    record { on = λ _. (tt, tt, omega (arith, lengths)); keeps = tt; rests = λ _. tt }

pub overflow_add-self-inside : goal.overflow_add-self-inside
overflow_add-self-inside c =
    let s = c.self.inside in
    let is = c.self.invariant in
    let start_in : s.start < s.size = omega (arith, is.start, is.size, is.some, mod_below (64 * s.number) s.masks.size (omega (arith, is.size, is.some))) in
    let step_in : s.step < s.size = omega (arith, is.step, is.size, is.some, mod_below 64 s.masks.size (omega (arith, is.size, is.some))) in
    omega (arith, start_in, step_in, is.small)

pub invariant_of-self : goal.invariant_of-self
invariant_of-self c =
    let s = c.self.inside in
    let is = c.self.invariant in
    record {
      from = omega (arith, is.from);
      to = λ left. is.to (omega (arith, left));
      index = λ left. is.index (omega (arith, left));
      start =
          c.wrapped-self-inside.ensures
          ∙ (λ j. (is.start j + is.step j) % is.size j)
          ∙ start-next s.number 1 s.masks.size;
      step = is.step;
      size = is.size;
      some = is.some;
      small = is.small;
    }
