use Rattle.std.proofs.Common.{sym, ap, drop, ◌∙◌, take, length, ◌∷◌, ◌-◌}
use Rattle.std.proofs.lemmas.List.{take_rest}
use Rattle.reh_commands.specs.Script.{words_of}
use Rattle.reh_commands.proofs.WordLaws.{words_of-blank, words_of-first}
use Rattle.reh_commands.proofs.words.next_word.Goals as goal

pub returns-then-is_empty : goal.returns-then-is_empty
returns-then-is_empty c =
    words_of-blank c.args.text.now _ (take_rest c.args.text.now c.blanks.result ∙ ap (λ n. drop n c.args.text.now) c.blanks.ensures.count) (sym c.if-is_empty.ensures)

pub returns : goal.returns
returns c =
    let text = c.args.text.now in
    let rest = take (length text - c.blanks.result) (drop c.blanks.result text) in
    words_of-first text rest c.word_len-end.result (take_rest text c.blanks.result ∙ ap (λ n. drop n text) c.blanks.ensures.count) (sym c.if-is_empty.ensures) c.word_len-end.ensures.count
    ∙ ap (λ xs. take c.word_len-end.result rest ∷ words_of xs) (sym (take_rest rest c.word_len-end.result))
