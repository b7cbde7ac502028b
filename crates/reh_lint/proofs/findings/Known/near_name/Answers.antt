use Rattle.std.proofs.Common.{◌≡◌, ◌∙◌, ap, List, ℕ, map, Option, option_map}
use Rattle.std.proofs.lemmas.Result.{IfOk-weaker}
use Rattle.reh_near.specs.declared.near.Near.{Near}
use Rattle.reh_near.specs.Near.{told}
use Rattle.reh_lint.specs.Lints.{near_word}
use Rattle.reh_lint.specs.Unknown.{line_words, unknown_name}
use Rattle.reh_lint.proofs.findings.Known.near_name.Goals as goal

pub returns : goal.returns
returns c =
    let found : Option (List ℕ) = option_map (λ word. word.now) c.unknown_name.result in
    let before : Near → Type 0 = λ near. told near ≡ near_word (map (λ name. name.now) c.deref.result.now) found in
    let after : Near → Type 0 = λ near. told near ≡ near_word c.args.self.now.state.now.names (unknown_name c.args.self.now.state.now.names (line_words c.args.line.now)) in
    let known : map (λ name. name.now) c.deref.result.now ≡ c.args.self.now.state.now.names = cc (c.deref.ensures.value, c.args.self.now.is_bookies) in
    let words : map (λ word. word.now) c.deref-2.result.now ≡ line_words c.args.line.now = cc (c.deref-2.ensures.value, c.in_ok-words.ensures) in
    IfOk-weaker c.near_word.result before after
    (λ near is. is
    ∙ ap (λ (names : List (List ℕ)). near_word names found) known
    ∙ ap (λ (word : Option (List ℕ)). near_word c.args.self.now.state.now.names word) (c.unknown_name.ensures
    ∙ ap (λ (names : List (List ℕ)). unknown_name names (map (λ word. word.now) c.deref-2.result.now)) c.names.ensures.names
    ∙ ap (unknown_name c.args.self.now.state.now.names) words))
    c.near_word.ensures
