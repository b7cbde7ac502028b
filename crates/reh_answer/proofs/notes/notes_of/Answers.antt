use Rattle.std.proofs.Common.{◌≡◌, ◌∙◌, ◌++◌, ℕ, List, ap, append_assoc, arith, length, map, option_copied, string_bytes, take_all}
use Rattle.std.specs.Prelude.{codes, nat_lt}
use Rattle.reh_answer.specs.Texts as texts
use Rattle.reh_answer.proofs.notes.notes_of.Goals as goal

behind : (all none first second third : List (List ℕ))
    → (((all ++ none) ++ first) ++ second) ++ third ≡ all ++ (none ++ (first ++ (second ++ third)))
behind all none first second third =
    append_assoc ((all ++ none) ++ first) second third
    ∙ append_assoc (all ++ none) first (second ++ third)
    ∙ append_assoc all none (first ++ (second ++ third))

pub returns : goal.returns
returns c =
    let note : ℕ → List ℕ = λ b. texts.name_of (map string_bytes c.args.names.now) b ++ codes " is not registered" in
    let facts = c.args.facts.now in
    let none : List (List ℕ) = texts.note_if (nat_lt 0 facts.unreadable) (texts.unreadable_note facts.unreadable) in
    let pause : List (List ℕ) = texts.note_if c.args.facts.now.writers_pause texts.pause_note in
    let new : List (List ℕ) = texts.note_if c.args.facts.now.may_hold_a_new_ledger (texts.new_ledger_note (option_copied c.args.taken)) in
    let unasked : List (List ℕ) = texts.unasked_notes c.args.facts.now.unasked in
    let all : map string_bytes c.loop-bookie.notes.items ≡ map note c.args.facts.now.unregistered =
    c.loop-bookie.invariant
    ∙ ap (λ (bookies : List ℕ). map note bookies)
    (take_all c.loop-bookie.bookie-index c.args.facts.now.unregistered (omega (arith, c.loop-bookie-test.false, ap length c.as_slice-bookie-items.ensures))) in
    let first : map string_bytes c.push_unreadable.new.notes.items ≡ map note facts.unregistered ++ none =
    c.in_ok-push_unreadable.ensures ∙ ap (λ (notes : List (List ℕ)). notes ++ none) all in
    c.in_ok-push_unasked.ensures
    ∙ ap (λ (notes : List (List ℕ)). notes ++ unasked)
    (c.in_ok-push_new_ledger.ensures ∙ ap (λ (notes : List (List ℕ)). notes ++ new) (c.in_ok-note_if.ensures ∙ ap (λ (notes : List (List ℕ)). notes ++ pause) first))
    ∙ behind (map note facts.unregistered) none pause new unasked
