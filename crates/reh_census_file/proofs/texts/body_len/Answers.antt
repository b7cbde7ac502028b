use Rattle.std.proofs.Common.{◌∙◌, ap, length, min}
use Rattle.reh_census_file.proofs.TextLaws.{body_len_is}
use Rattle.reh_census_file.proofs.texts.body_len.Goals as goal

pub returns : goal.returns
returns c =
    rw (c.entries-entries.ensures.entries, c.tails-tails.ensures.tails, c.ensembles-ensembles.ensures.ensembles, c.census-counted.ensures) (body_len_is c.args.census.now c.min-named.result (c.min-named.ensures ∙ ap (λ n. min n (length c.as_slice-bookies.result.now)) (c.len.ensures.count ∙ ap length c.names.ensures) ∙ ap (λ bookies. min (length c.args.census.now.names) (length bookies)) (c.as_slice-bookies.ensures.bookies ∙ c.bookies.ensures)))
