use Rattle.std.proofs.Common.{◌≡◌, ◌∙◌, ◌+◌, ◌-◌, ℕ, List, [], ◌∷◌, length, get_or, refl, ap, sym, arith}
use Rattle.reh_census.specs.declared.censuses.CountedTail.{CountedTail}
use Rattle.reh_census.specs.declared.censuses.Tail.{Tail}
use Rattle.reh_census.specs.declared.ledgers.Fragment.{Fragment}
use Rattle.reh_census.specs.Counting.{count_tails_in, tail_with}
use Rattle.reh_census.specs.Ledgers.{Ledger}
use Rattle.reh_tally.proofs.TailLaws.{tail_on, tail_with-last, tails-more}
use Rattle.reh_tally.proofs.tails.add_last.Goals as goal

pub returns-clause-counts : goal.returns-clause-counts
returns-clause-counts c test =
    let g : Ledger = c.args.ledger.now in
    let fragments : List Fragment = g.fragments in
    let same : c.fragments-fragments.result.now ≡ fragments = c.fragments-fragments.ensures.fragments in
    let f : Fragment = c.index-fragments-len.result in
    let n : ℕ = length c.fragments-fragments.result.now - 1 in
    let long : length fragments ≡ n + 1 = omega (arith, c.if-len-eq0.false, ap length same) in
    let at : f ≡ get_or fragments n f = c.index-fragments-len.is ∙ ap (λ (xs : List Fragment). get_or xs n f) same in
    let x : CountedTail = record {
      tail = record {
        size = c.size.result;
        write_quorum = c.write_quorum.result;
        ack_quorum = c.ack_quorum.result;
        is_open = c.args.is_open;
        ensemble = c.in_ok-ensemble.ensemble;
      };
      count = 1;
    } in
    let copied : f.ensemble ≡ c.in_ok-ensemble.ensemble = cc (c.in_ok-ensemble.ensures) in
    let ensemble : (get_or fragments n f).ensemble ≡ c.in_ok-ensemble.ensemble =
    ap (λ (y : Fragment). y.ensemble) (sym at) ∙ copied in
    let made : tail_on g c.args.is_open (get_or fragments n f).ensemble ≡ x.tail =
    λ i. record {
      size = sym c.size.ensures.size i;
      write_quorum = sym c.write_quorum.ensures i;
      ack_quorum = sym c.ack_quorum.ensures i;
      is_open = c.args.is_open;
      ensemble = ensemble i;
    } in
    ap (λ (items : List CountedTail). count_tails_in items test) c.in_ok-push.ensures.items
    ∙ tails-more c.args.tails.now.items x (tail_with g c.args.is_open fragments) test refl
    (tail_with-last g c.args.is_open fragments n f long ∙ ap (λ (t : Tail). t ∷ []) made)
