-- The words at the head are of one row, and turn there; no other change is made.
use Rattle.std.proofs.Common.{◌≡◌, ◌≤◌, ◌<◌, length, ℕ, List, [], ◌∷◌, ◌++◌, take, drop, get_or, set, refl, ap, sym, subst}
use Rattle.std.proofs.Common.{◌∙◌, arith}
use Rattle.std.specs.Prelude.{All}
use Rattle.std.specs.List.{prefix_len}
use Rattle.std.proofs.lemmas.List.{take-append-drop}
use Rattle.std.proofs.lemmas.List.Sums.{prefix_len-le-length}
use Rattle.reh_model.specs.Cluster.{Parts, words_among}
use Rattle.reh_model.specs.Places.{Change, IsPlaced, put, put_all, back, back_all}
use Rattle.reh_held.specs.Values.{HeldValue}
use Rattle.reh_held.specs.Turns.{IsWordOf}
use Rattle.reh_cluster.specs.Runs.{is_word_of}
use Rattle.reh_cluster.specs.Parts.{PartsValue}
use Rattle.reh_cluster.specs.Kept.{parts_in}
use Rattle.reh_cluster.proofs.ExchangeLaws.{words_of_run, put_all-words, back_all-words}
use Rattle.reh_cluster.proofs.exchanges.exchange_run.Goals as goal

run_within : (b l : ℕ) {count : ℕ} (cs : List Change) → count ≡ prefix_len (is_word_of b l) cs → count ≤ length cs
run_within b l cs is = omega (arith, prefix_len-le-length (is_word_of b l) cs, is)

run_words : (b l : ℕ) {count words : ℕ} (n : ℕ) (p : Parts) (cs : List Change)
    → count ≡ prefix_len (is_word_of b l) cs → words ≡ words_among p.ledgers l → All (IsPlaced n p) cs
    → All (IsWordOf words b l) (take count cs)
run_words b l {words = words} n p cs is rows placed =
    subst (λ (count : ℕ). All (IsWordOf words b l) (take count cs)) (sym is)
    (subst (λ (words : ℕ). All (IsWordOf words b l) (take (prefix_len (is_word_of b l) cs) cs)) (sym rows) (words_of_run b l n p cs placed))

-- the first change alone is put,
one_put : (p : Parts) (cs : List Change) (d : Change) → 0 < length cs → put p (get_or cs 0 d) ≡ put_all p (take 1 cs)
one_put p [] d some = absurd (omega arith)
one_put p (c ∷ cs) d some = refl

-- and left with what stood at its place
one_left : (p : Parts) (cs : List Change) (d left : Change) → 0 < length cs → left ≡ back p (get_or cs 0 d)
    → set cs 0 left ≡ back_all p (take 1 cs) ++ drop 1 cs
one_left p [] d left some is = absurd (omega arith)
one_left p (c ∷ cs) d left some is = ap (λ (b : Change). b ∷ cs) is

pub slice_bounds-toggle_words-end : goal.slice_bounds-toggle_words-end
slice_bounds-toggle_words-end c = run_within _ _ c.args.changes.now c.run_length-count.ensures

pub toggle_words-requires-clause-words : goal.toggle_words-requires-clause-words
toggle_words-requires-clause-words c =
    let p : PartsValue = parts_in c.parts.inside in
    run_words _ _ p.bookies p.parts c.args.changes.now
    c.run_length-count.ensures (c.parts.invariant.rows.words _) (rw (← c.parts.view_is) at c.requires.placed)

pub returns-then-count-gt1-clause-parts : goal.returns-then-count-gt1-clause-parts
returns-then-count-gt1-clause-parts c =
    let p : PartsValue = parts_in c.parts.inside in
    let words = run_words _ _ p.bookies p.parts c.args.changes.now
    c.run_length-count.ensures (c.parts.invariant.rows.words _) (rw (← c.parts.view_is) at c.requires.placed) in
    rw (← c.parts.view_is)
    (ap (λ (h : HeldValue). record { bookies = h.bookies; parts = record p.parts { held = h.contents } }) c.toggle_words.ensures
    ∙ ap (λ (q : Parts). record p { parts = q })
    (sym (put_all-words _ _ _ p.parts (take c.run_length-count.result c.args.changes.now) words)))

pub returns-then-count-gt1-clause-left : goal.returns-then-count-gt1-clause-left
returns-then-count-gt1-clause-left c =
    let p : PartsValue = parts_in c.parts.inside in
    let words = run_words _ _ p.bookies p.parts c.args.changes.now
    c.run_length-count.ensures (c.parts.invariant.rows.words _) (rw (← c.parts.view_is) at c.requires.placed) in
    rw (← c.parts.view_is)
    (sym (ap (λ (cs : List Change). cs ++ drop c.run_length-count.result c.args.changes.now)
    (back_all-words _ _ _ p.parts (take c.run_length-count.result c.args.changes.now) words)
    ∙ take-append-drop c.run_length-count.result c.args.changes.now))

pub returns : goal.returns
returns c =
    let p : PartsValue = c.args.parts.now in
    let cs : List Change = c.args.changes.now in
    let first : Change = c.index-changes-0-2.result in
    record {
      some = omega arith;
      within = c.requires.some;
      parts =
          c.exchange_one.ensures.parts
          ∙ ap (λ (q : Parts). record p { parts = q }) (one_put p.parts cs first c.requires.some);
      left =
          one_left p.parts cs first c.exchange_one.new.change c.requires.some c.exchange_one.ensures.left;
    }
