-- The names are those of the bookies.
use Rattle.std.proofs.Common.{◌≡◌, ◌∙◌, ℕ, List, ap, map, string_bytes, subst}
use Rattle.std.specs.Borrow.{Bor}
use Rattle.std.specs.Prelude.{IfOk}
use Rattle.reh_questions.specs.Names as model
use Rattle.reh_questions.proofs.names.unknown_text.Goals as goal

pub returns : goal.returns
returns c =
    let texts : List (Bor (List ℕ)) → List (List ℕ) = map (λ name. name.now) in
    subst (λ (known : List (List ℕ)). IfOk c.unknown_among_text.result
    (λ text. string_bytes text ≡ model.unknown_text c.args.path.now known c.args.name.now))
    (ap texts c.deref.ensures.value ∙ c.in_ok-known.ensures)
    c.unknown_among_text.ensures
