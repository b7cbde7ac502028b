use Rattle.std.proofs.Common.{ℕ, List, string_bytes}
use Rattle.std.specs.Prelude.{codes}
use Rattle.reh_waves.specs.Texts.{broken_text, ledgers_text, more_text}
use Rattle.reh_waves.proofs.PushLaws.{before, instead}
use Rattle.reh_waves.proofs.TextLaws.{line-parts}
use Rattle.reh_waves.proofs.risk_lines.push_rules.Goals as goal

pub returns : goal.returns
returns c =
    let numbers = c.args.numbers.now in
    let end : List ℕ = string_bytes c.push_more-2.new.text in
    instead c.push_more-2.result end (string_bytes c.args.text.now) _ _
    (line-parts (codes " ") (codes "readable ") (broken_text numbers.readable) (codes ", kept ") (broken_text numbers.kept) (ledgers_text numbers)
    (more_text (codes ", replaceable ") numbers.replaceable) (more_text (codes ", disks ") numbers.disks))
    (before c.push_more-2.result end (string_bytes c.args.text.now) (string_bytes c.push_broken.new.text) _ _ c.in_ok-push_broken.ensures
    (before c.push_more-2.result end (string_bytes c.push_broken.new.text) (string_bytes c.push_broken-2.new.text) _ _ c.in_ok-push_broken-2.ensures
    (before c.push_more-2.result end (string_bytes c.push_broken-2.new.text) (string_bytes c.write.new.self) _ _ c.in_ok-write.ensures.bytes
    (before c.push_more-2.result end (string_bytes c.write.new.self) (string_bytes c.push_more.new.text) _ _ c.in_ok-push_more.ensures
    c.push_more-2.ensures))))
