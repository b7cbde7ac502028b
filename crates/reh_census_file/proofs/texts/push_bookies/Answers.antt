use Rattle.std.proofs.Common.{◌∙◌, sym, ap, option_map, arith, None, false}
use Rattle.reh_census.specs.declared.bookies.Bookie.{Bookie}
use Rattle.reh_census_file.proofs.TextLaws.{bookie_more, bookie_none, bookies_all}
use Rattle.reh_census_file.proofs.texts.push_bookies.Goals as goal

abbrev no_bookie : Bookie
no_bookie = record { is_registered = false; is_read_only = false; is_empty = false; rack = None }

pub returns-in_default : goal.returns-in_default
returns-in_default c =
    let none = sym c.name.ensures ∙ ap (option_map (λ name. name.now)) c.in_default.is in
    sym (bookie_none c.racks-racks.result.now c.names-names.result.now c.as_slice-bookies.result.now _ c.loop-number.number none) ∙ c.loop-number.invariant

pub loop-number-preserved : goal.loop-number-preserved
loop-number-preserved c =
    let named = sym c.name.ensures ∙ ap (option_map (λ name. name.now)) c.in-Some.is in
    rw c.in_ok-push_bookie.ensures (bookie_more c.racks-racks.result.now c.names-names.result.now c.as_slice-bookies.result.now _ c.loop-number.number c.in-Some.name.now no_bookie (omega arith) named ∙ c.loop-number.invariant)

pub returns : goal.returns
returns c = sym (bookies_all c.racks-racks.result.now c.names-names.result.now c.as_slice-bookies.result.now _ c.loop-number.number c.loop-number-test.false) ∙ c.loop-number.invariant
