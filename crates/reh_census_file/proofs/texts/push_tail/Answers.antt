use Rattle.std.specs.Fmt.{decimal}
use Rattle.std.proofs.lemmas.Result.{IfOk-equal}
use Rattle.reh_census_file.specs.Texts.{names_of, state_word}
use Rattle.reh_census_file.proofs.TextLaws.{ended, tail_is}
use Rattle.reh_census_file.proofs.texts.push_tail.Goals as goal

pub returns : goal.returns
unfolding lib.Utf8.encode
returns c =
    let counted = c.args.counted.now in
    let tail = counted.tail in
    IfOk-equal c.push.result _ _ _ (ended c.push.result _ _ c.push.ensures.bytes)
    (rw (c.in_ok-push_names.ensures, c.in_ok-write.ensures.bytes, c.as_slice.ensures, c.state_word.ensures)
    (tail_is _ (decimal counted.count) (state_word tail.is_open) (decimal tail.size) (decimal tail.write_quorum) (decimal tail.ack_quorum) (names_of c.args.names.now tail.ensemble)))
