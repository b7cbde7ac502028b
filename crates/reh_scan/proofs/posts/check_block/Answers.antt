-- A source that is lost is one of the word's, where those of the words before it are not, or one of those after it.
use Rattle.std.proofs.Common.{rules, ◌≡◌, ◌∙◌, ◌+◌, ◌/◌, ap, sym, subst, ℕ, List, Option, map, drop, length, arith}
use Rattle.std.specs.Int.Count.{ones}
use Rattle.std.specs.List.{zip}
use Rattle.std.specs.Option.{option_or}
use Rattle.std.proofs.lemmas.List.{drop_min, take_rest, drop-drop, length-append}
use Rattle.reh_types.specs.declared.refusals.Refusal.{Refusal}
use Rattle.reh_model.specs.Checks.{first_reason}
use Rattle.reh_stripe.specs.declared.words.Word.{Word}
use Rattle.reh_stripe.specs.Words.{AreRising, entries_in, entries_of}
use Rattle.reh_stripe.proofs.CountLaws.{ones-entries}
use Rattle.reh_scan.specs.Posts.{lost_bit, lost_copy}
use Rattle.reh_scan.proofs.CopyLaws.{lost-word, lost_copy-bit}
use Rattle.reh_scan.proofs.JobLaws.{entries_in-within}
use Rattle.reh_scan.proofs.posts.check_block.Goals as goal

pub loop-word-preserved : goal.loop-word-preserved
loop-word-preserved c =
    let lost : ℕ × Option ℕ → Option Refusal = lost_copy c.args.rows.now c.args.metadata.now c.args.fragment.now in
    let w : Word = c.in-Some.word in
    let rest : List Word = c.next.new.self in
    let sources : List (Option ℕ) = c.loop-word.rest.now in
    let was = c.loop-word.invariant.rising in
    let rising = subst (λ (ws : List Word). AreRising was.0 ws) c.in-Some.ensures.steps was.1 in
    let passed = c.loop-word.invariant.passed in
    let left : drop (length (entries_in w)) sources ≡ _ =
    ap (λ n. drop n sources) (ones-entries w (omega arith))
    ∙ sym (drop_min (ones w.bits) sources)
    ∙ ap (λ n. drop n sources) (sym c.min-checked.ensures)
    ∙ sym (take_rest sources c.min-checked.result) in
    record {
      lost =
          c.loop-word.invariant.lost
          ∙ ap (λ (ws : List Word). first_reason (map lost (zip (entries_of ws) sources))) c.in-Some.ensures.steps
          ∙ lost-word (λ e. e / 64 ≡ w.number) lost (lost_bit c.copies_of-copies.result)
          (lost_copy-bit c.args.rows.now c.args.metadata.now c.args.fragment.now w.number
          c.copies_of-copies.result c.copies_of-copies.ensures)
          (entries_in w) (entries_of rest) sources (entries_in-within w)
          ∙ ap (λ reason.
          option_or reason (first_reason (map lost (zip (entries_of rest) (drop (length (entries_in w)) sources)))))
          c.in_ok-check_word.ensures
          ∙ ap (λ (zs : List (Option ℕ)). first_reason (map lost (zip (entries_of rest) zs))) left;
      passed = (
        passed.0 + length (entries_in w),
        omega (
          arith,
          passed.1,
          ap (λ (ws : List Word). length (entries_of ws)) c.in-Some.ensures.steps,
          length-append (entries_in w) (entries_of rest),
        ),
        sym left
            ∙ ap (λ (zs : List (Option ℕ)). drop (length (entries_in w)) zs) passed.2
            ∙ drop-drop (length (entries_in w)) passed.0 c.args.sources.now,
      );
      rising = (w.number + 1, rising.2);
    }

pub returns-in_err-check_word : goal.returns-in_err-check_word
returns-in_err-check_word c =
    let lost : ℕ × Option ℕ → Option Refusal = lost_copy c.args.rows.now c.args.metadata.now c.args.fragment.now in
    let w : Word = c.in-Some.word in
    let rest : List Word = c.next.new.self in
    let sources : List (Option ℕ) = c.loop-word.rest.now in
    let refused =
    c.loop-word.invariant.lost
    ∙ ap (λ (ws : List Word). first_reason (map lost (zip (entries_of ws) sources))) c.in-Some.ensures.steps
    ∙ lost-word (λ e. e / 64 ≡ w.number) lost (lost_bit c.copies_of-copies.result)
    (lost_copy-bit c.args.rows.now c.args.metadata.now c.args.fragment.now w.number
    c.copies_of-copies.result c.copies_of-copies.ensures)
    (entries_in w) (entries_of rest) sources (entries_in-within w)
    ∙ ap (λ reason.
    option_or reason (first_reason (map lost (zip (entries_of rest) (drop (length (entries_in w)) sources)))))
    c.in_err-check_word.ensures in
    search (rules, refused)
