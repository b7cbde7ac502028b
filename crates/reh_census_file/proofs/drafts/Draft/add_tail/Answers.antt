use Rattle.std.proofs.Common.{◌+◌, ◌∙◌, ap, arith}
use Rattle.std.proofs.lemmas.List.Elements.{All-push, All-same}
use Rattle.std.proofs.lemmas.List.Sums.{sum_by_push}
use Rattle.reh_census.specs.Counting.{tails_in}
use Rattle.reh_census.specs.Tails.{IsTail}
use Rattle.reh_census.specs.declared.censuses.CountedTail.{CountedTail}
use Rattle.reh_census_file.specs.Drafts.{Draft}
use Rattle.reh_census_file.proofs.drafts.Draft.add_tail.Goals as goal

pub invariant_of-self-2 : goal.invariant_of-self-2
invariant_of-self-2 c =
    let was = c.self.invariant in
    let tails = c.self.inside.tails.items in
    let items = c.in_ok-push.ensures.items in
    record {
      few_bookies = was.few_bookies;
      few_racks = was.few_racks;
      judged = was.judged;
      entries = was.entries;
      few_entries = was.few_entries;
      tails = ap tails_in items ∙ sum_by_push (λ (t : CountedTail). t.count) tails c.args.counted ∙ ap (λ n. n + c.args.counted.count) was.tails;
      few_tails = omega (arith, was.tails, ap (λ (d : Draft). tails_in d.tails) c.self.view_is, c.in_ok-check_tail.ensures.few);
      well_formed = All-same (λ (t : CountedTail). IsTail t.tail) _ _ items (All-push (λ (t : CountedTail). IsTail t.tail) tails c.args.counted was.well_formed c.in_ok-check_tail.ensures.well_formed);
      ensembles = was.ensembles;
      few_ensembles = was.few_ensembles;
    }
