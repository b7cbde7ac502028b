use Rattle.std.proofs.Common.{◌≡◌, ◌∙◌, ◌≤◌, ◌∷◌, [], Bool, false, List, length, get_or, ap, sym, subst, arith}
use Rattle.std.specs.Prelude.{slice_get}
use Rattle.std.specs.Option.{option_map_or}
use Rattle.std.proofs.lemmas.List.{length-append}
use Rattle.reh_census.specs.declared.ledgers.Content.{Content}
use Rattle.reh_census.specs.declared.ledgers.Told.{Told}
use Rattle.reh_tally.specs.Cursors.{ranges_of}
use Rattle.reh_tally.specs.Stretches.{AreRising}
use Rattle.reh_tally.proofs.CursorLaws.{flags-made, flags-more}
use Rattle.reh_tally.proofs.cursors.risings_of.Goals as goal

pub loop-content-preserved : goal.loop-content-preserved
loop-content-preserved c = record {
  long =
      omega (arith, ap length c.in_ok-push.ensures.items, length-append c.loop-content.risings.items (c.is_rising.result ∷ []), c.loop-content.invariant.long);
  rising = λ k d e under set.
      flags-more c.contents-content-items.result.now c.loop-content.risings.items c.is_rising.result c.loop-content.content-index c.content-item.result
      c.loop-content-test.true c.loop-content.invariant.long c.loop-content.invariant.rising c.content-item.is c.is_rising.ensures k d e under
      (ap (λ (flags : List Bool). get_or flags k e) (sym c.in_ok-push.ensures.items) ∙ set);
}

pub returns : goal.returns
returns c content set =
    let n : length c.contents-content-items.result.now ≤ c.loop-content.content-index = c.loop-content-test.false in
    let all : c.loop-content.content-index ≡ length c.contents-content-items.result.now =
    omega (arith, n, c.loop-content.auto.content-index-end) in
    subst
    (λ (items : List Content). AreRising (ranges_of (option_map_or (λ found. found.told) (slice_get items content) c.args.ledger.now.rest)))
    c.contents-content-items.ensures
    (flags-made c.contents-content-items.result.now c.args.ledger.now.rest c.loop-content.risings.items c.is_rising-2.result content
    (c.loop-content.invariant.long ∙ all)
    (λ k d e within on. c.loop-content.invariant.rising k d e (omega (arith, within, n)) on)
    (λ on. subst (λ (told : Told). AreRising (ranges_of told)) c.rest.ensures (c.is_rising-2.ensures on))
    (ap (λ (flags : List Bool). get_or flags content false) (sym c.in_ok-push-2.ensures.items) ∙ set))
