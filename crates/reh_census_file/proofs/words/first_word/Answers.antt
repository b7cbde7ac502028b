use Rattle.std.proofs.Common.{◌∙◌, ap, sym, ◌∷◌, take, drop}
use Rattle.reh_census_file.specs.Reading.{words_after}
use Rattle.reh_census_file.proofs.WordLaws.{words_of-first}
use Rattle.reh_census_file.proofs.words.first_word.Goals as goal

pub returns : goal.returns
returns c =
    let line = c.args.line.now in
    words_of-first line ∙ ap (λ n. take n line ∷ words_after (drop n line)) (sym c.word_len.ensures.count)
    ∙ ap (λ first. first ∷ words_after (drop c.word_len.result line)) (sym c.split_at.ensures.front)
    ∙ ap (λ rest. c.split_at.result.0.now ∷ words_after rest) (sym c.split_at.ensures.back)
