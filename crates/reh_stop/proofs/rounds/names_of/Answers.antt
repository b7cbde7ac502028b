-- There are as many names as bookies, of which there are not too many.
use Rattle.std.proofs.Common.{◌∙◌, ap, sym, length, string_bytes, arith}
use Rattle.std.proofs.lemmas.List.{length-map}
use Rattle.reh_stop.proofs.rounds.names_of.Goals as goal

pub returns-clause-names : goal.returns-clause-names
returns-clause-names c = c.as_slice.ensures ∙ c.names-names.ensures

pub returns-clause-few : goal.returns-clause-few
returns-clause-few c =
    omega (
      arith,
      ap length (c.as_slice.ensures ∙ c.names-names.ensures),
      length-map c.as_slice.result.now string_bytes,
      ap length c.names-names.ensures,
      c.len-few.ensures.limit,
    )

pub returns-clause-each : goal.returns-clause-each
returns-clause-each c =
    sym (length-map c.as_slice.result.now string_bytes) ∙ ap length (c.as_slice.ensures ∙ c.names-names.ensures)
    ∙ sym c.shown-each.ensures.each
