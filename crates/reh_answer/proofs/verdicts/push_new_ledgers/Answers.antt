use Rattle.std.proofs.Common.{◌++◌, ℕ, ap, string_bytes, sym}
use Rattle.reh_answer.specs.Texts.{new_ledgers_words}
use Rattle.reh_answer.proofs.TextLaws.{instead, written}
use Rattle.reh_answer.proofs.verdicts.push_new_ledgers.Goals as goal

pub returns-then-others-eq0 : goal.returns-then-others-eq0
returns-then-others-eq0 c =
    instead c.push_str.result (string_bytes c.push_str.new.self) (string_bytes c.args.text.now) (new_ledgers_words 0) (new_ledgers_words c.args.others)
    (ap (λ (others : ℕ). new_ledgers_words others) (sym c.if-others-eq0.true))
    (written c.push_str.result (string_bytes c.push_str.new.self) (string_bytes c.args.text.now ++ new_ledgers_words 0) (string_bytes c.args.text.now)
    c.push_str.ensures.bytes)
