use Rattle.std.proofs.Common.{◌∙◌, ◌++◌, Bool, true, false, ap, string_bytes, sym}
use Rattle.std.specs.Prelude.{codes}
use Rattle.std.specs.Fmt.{decimal}
use Rattle.reh_answer.specs.Texts.{replaceable_words, rules_line}
use Rattle.reh_answer.proofs.TextLaws.{eight-first, instead}
use Rattle.reh_answer.proofs.rules.push_rules.Goals as goal

pub returns-then-not-for_good : goal.returns-then-not-for_good
returns-then-not-for_good c =
    let numbers = c.args.numbers.now in
    instead c.write.result (string_bytes c.write.new.self) (string_bytes c.args.text.now) _ (rules_line numbers c.args.for_good)
    (eight-first (codes "rules              readable ") (decimal numbers.readable.no) (codes ", kept ") (decimal numbers.kept.no)
    (codes ", recoverable ") (decimal numbers.recoverable) (codes ", writable ") (decimal numbers.writable)
    (replaceable_words numbers.replaceable false ++ codes "\n")
    ∙ ap (λ (for_good : Bool). rules_line numbers for_good) (sym c.if-not-for_good.true))
    c.write.ensures.bytes

pub returns : goal.returns
returns c =
    let numbers = c.args.numbers.now in
    instead c.write-2.result (string_bytes c.write-2.new.self) (string_bytes c.args.text.now) _ (rules_line numbers c.args.for_good)
    (eight-first (codes "rules              readable ") (decimal numbers.readable.no) (codes ", kept ") (decimal numbers.kept.no)
    (codes ", recoverable ") (decimal numbers.recoverable) (codes ", writable ") (decimal numbers.writable)
    (replaceable_words numbers.replaceable true ++ codes "\n")
    ∙ ap (λ (for_good : Bool). rules_line numbers for_good) (sym c.if-not-for_good.false))
    c.write-2.ensures.bytes
