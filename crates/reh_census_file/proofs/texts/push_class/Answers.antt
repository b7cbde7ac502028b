use Rattle.std.specs.Fmt.{decimal}
use Rattle.std.proofs.Common.{length}
use Rattle.std.proofs.lemmas.Result.{IfOk-equal}
use Rattle.reh_census_file.specs.Texts.{names_of}
use Rattle.reh_census_file.proofs.TextLaws.{ended, class_is}
use Rattle.reh_census_file.proofs.texts.push_class.Goals as goal

pub returns : goal.returns
unfolding lib.Utf8.encode
returns c =
    let names = c.args.names.now in
    let counted = c.args.counted.now in
    let class = counted.class in
    IfOk-equal c.push.result _ _ _ (ended c.push.result _ _ c.push.ensures.bytes)
    (rw (
      c.in_ok-push_names-2.ensures,
      c.in_ok-write-2.ensures.bytes,
      c.in_ok-push_names.ensures,
      c.in_ok-write.ensures.bytes,
      c.as_slice-known.ensures,
      c.as_slice-untold.ensures,
    ) (class_is _ (decimal counted.count) (decimal class.write_quorum) (decimal class.ack_quorum) (decimal (length class.known)) (decimal (length class.untold)) (names_of names class.known) (names_of names class.untold)))
