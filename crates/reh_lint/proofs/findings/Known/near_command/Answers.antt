use Rattle.std.proofs.Common.{◌≡◌, ◌∙◌, ap, List, ℕ, map, Option, option_map}
use Rattle.std.proofs.lemmas.Result.{IfOk-weaker}
use Rattle.reh_near.specs.declared.near.Near.{Near}
use Rattle.reh_near.specs.Near.{told}
use Rattle.reh_lint.specs.Lints.{near_word, verb_names}
use Rattle.reh_lint.specs.Unknown.{line_words, unknown_command}
use Rattle.reh_lint.proofs.findings.Known.near_command.Goals as goal

pub returns : goal.returns
returns c =
    let found : Option (List ℕ) = option_map (λ word. word.now) c.unknown_command.result in
    let before : Near → Type 0 = λ near. told near ≡ near_word (map (λ name. name.now) c.deref.result.now) found in
    let after : Near → Type 0 = λ near. told near ≡ near_word verb_names (unknown_command (line_words c.args.line.now)) in
    let known : map (λ name. name.now) c.deref.result.now ≡ verb_names = cc (c.deref.ensures.value, c.args.self.now.is_verbs) in
    let words : map (λ word. word.now) c.deref-2.result.now ≡ line_words c.args.line.now = cc (c.deref-2.ensures.value, c.in_ok-words.ensures) in
    IfOk-weaker c.near_word.result before after
    (λ near is. is
    ∙ ap (λ (names : List (List ℕ)). near_word names found) known
    ∙ ap (λ (word : Option (List ℕ)). near_word verb_names word) (c.unknown_command.ensures ∙ ap unknown_command words))
    c.near_word.ensures
