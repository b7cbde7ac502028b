-- The line begins with the number and name, is filled up with blanks, and says what the refusal means.
use Rattle.std.proofs.Common.{◌++◌, ◌∷◌, [], ◌∙◌, ap, arith, string_bytes}
use Rattle.std.specs.Fmt.{styled_text}
use Rattle.reh_help.proofs.PageLaws.{filled, titled}
use Rattle.reh_help.proofs.pages.refusal_line.Goals as goal

pub returns : goal.returns
returns c =
    let name = string_bytes c.in_ok-name.name in
    let meaning = c.meaning-meaning.result.now in
    titled c.args.topic.now name meaning (string_bytes c.in_ok-line.line) _ c.in_ok-name.ensures (filled name (omega arith))
    (c.in_ok-line.ensures.ok ∙ ap (λ s. styled_text s name ++ (meaning ++ 10 ∷ [])) c.laid_out.ensures)
