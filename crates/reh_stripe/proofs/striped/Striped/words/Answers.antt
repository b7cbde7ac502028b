-- The words from that of the first entry to that of the last have the entries that the index carries.
use Rattle.std.proofs.Common.{◌∙◌, ◌-◌, ◌/◌, ◌≤◌, ◌^◌, ◌&&◌, ℕ, refl, ap, arith, map}
use Rattle.reh_model.specs.Striping.{is_striped, range}
use Rattle.reh_stripe.specs.Masks.{Sizes}
use Rattle.reh_stripe.specs.Words.{is_between, word_of, entries_of}
use Rattle.reh_stripe.proofs.WordLaws.{entries-striped, entries-outside, rising-words, end_word-within}
use Rattle.reh_stripe.proofs.striped.Striped.words.Goals as goal
use Rattle.reh_stripe.proofs.striped.Striped.words.Goals.{then-self, else-self}

pub returns-clause-entries : goal.returns-clause-entries
returns-clause-entries c =
    let s = c.self.inside in
    let last : ℕ = c.saturating_sub.result in
    let words : Sizes → ℕ → _ = λ v end.
    entries_of (map (word_of (λ e. is_between s.at last e && is_striped e s.index v.size v.quorum)) (range (s.at / 64) end)) in
    ap (λ v. words v c.if-self.end) c.new.ensures
    ∙ elim c.if-self.branch [
      | then-self w ↦
          entries-striped s.at s.stop s.index s.size s.quorum (s.at / 64) c.if-self.end last refl
          (w.end-is ∙ w.end_word-end.ensures) c.saturating_sub.ensures
      | else-self w ↦
          entries-outside (λ e. is_between s.at last e && is_striped e s.index s.size s.quorum) s.at s.stop s.index
          s.size s.quorum (s.at / 64) c.if-self.end c.self.invariant.1 (omega arith) w.end-is
    ]
    ∙ c.self.view_is

pub returns-clause-rising : goal.returns-clause-rising
returns-clause-rising c =
    let s = c.self.inside in
    let within : c.if-self.end ≤ 2 ^ 26 = elim c.if-self.branch [
      | then-self w ↦ omega (arith, w.end-is, w.end_word-end.ensures, end_word-within s.at s.stop (omega arith) (omega arith))
      | else-self w ↦ omega (arith, w.end-is)
    ] in
    rising-words (λ e. is_between s.at c.saturating_sub.result e && is_striped e s.index c.new.result.size c.new.result.quorum)
    0 (s.at / 64) (c.if-self.end - s.at / 64) (omega arith) (omega (arith, within))
