use Rattle.std.proofs.lemmas.Result.{IfOk-equal}
use Rattle.reh_census_file.specs.Texts.{strict_word, taken_word}
use Rattle.reh_census_file.proofs.TextLaws.{head_is}
use Rattle.reh_census_file.proofs.texts.push_head.Goals as goal

pub returns : goal.returns
returns c =
    IfOk-equal c.write.result _ _ _ c.write.ensures.bytes
    (rw (c.taken_word.ensures, c.strict_word.ensures, c.is_strict.ensures) (head_is _ (strict_word c.args.census.now.is_strict) (taken_word c.args.census.now.taken)))
