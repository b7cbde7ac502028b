-- The time stands between the words.
use Rattle.std.proofs.Common.{◌≡◌, ◌∙◌, ◌++◌, ℕ, List, Option, Some, Result, Ok, Err, ap, append_assoc, option_copied, string_bytes, String, sym, Global}
use Rattle.std.specs.Prelude.{IfOk, codes}
use Rattle.std.specs.declared.alloc.AllocError.{AllocError}
use Rattle.reh_answer.specs.Texts.{time_words}
use Rattle.reh_answer.proofs.notes.new_ledger_note.Goals as goal

with-time : (note : Result (String Global) AllocError) (taken : Option (List ℕ)) (time before behind : List ℕ)
    → taken ≡ Some time
    → IfOk note (λ text. string_bytes text ≡ before ++ (codes " (" ++ (time ++ (codes ")" ++ behind))))
    → IfOk note (λ text. string_bytes text ≡ before ++ (time_words taken ++ behind))
with-time (Ok text) taken time before behind is said =
    said
    ∙ ap (λ (t : List ℕ). before ++ (codes " (" ++ t)) (sym (append_assoc time (codes ")") behind))
    ∙ ap (λ (t : Option (List ℕ)). before ++ (time_words t ++ behind)) (sym is)
with-time (Err e) taken time before behind is said = tt

pub returns-in-Some : goal.returns-in-Some
returns-in-Some c =
    with-time c.format.result (option_copied c.args.taken) c.in-Some.time.now
    (codes "a ledger created since the input was taken")
    (codes " may have all its copies on these bookies: make them read-only, take a new input, ask again")
    (ap option_copied c.in-Some.is) c.format.ensures.ok
