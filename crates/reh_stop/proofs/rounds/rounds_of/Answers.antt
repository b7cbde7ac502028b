-- The order is one of all bookies; and what inputs show together is counted as their ledgers are.
use Rattle.std.proofs.Common.{◌≡◌, ◌∙◌, sym, subst, ℕ, List, length}
use Rattle.std.specs.List.Sorted.{IsPermutation}
use Rattle.reh_census.specs.Striping.{range}
use Rattle.reh_census.specs.Bookies.{bookies_of}
use Rattle.reh_waves.specs.Waves.{ArePlaced, answer_in}
use Rattle.reh_stop.proofs.GatheredLaws.{all_counted}
use Rattle.reh_stop.proofs.rounds.rounds_of.Goals as goal

pub waves_of-requires : goal.waves_of-requires
waves_of-requires c =
    let count : length c.names_of.result.now ≡ length c.args.gathered.now.bookies = c.names_of.ensures.each ∙ sym c.requires in
    subst (λ (n : ℕ). IsPermutation (range 0 n) c.deref.result.now) count
    (subst (λ (order : List ℕ). IsPermutation (range 0 (length c.names_of.result.now)) order) (sym c.deref.ensures.value)
    c.in_ok-order.ensures.permutation)

pub returns : goal.returns
returns c = record {
  census = c.in_ok-waves.ensures.census;
  no_two = c.in_ok-waves.ensures.no_two;
  once = c.in_ok-waves.ensures.once;
  order = c.in_ok-order.order.items;
  is_order = record {
    names = c.names_of.result.now;
    are_names = c.names_of.ensures.names;
    in_order = c.in_ok-order.ensures;
  };
  placed =
      subst (λ (order : List ℕ).
      ArePlaced (answer_in c.args.gathered.now.census (bookies_of c.args.gathered.now.bookies) c.args.asked.now.question)
      (bookies_of c.args.gathered.now.bookies) c.args.asked.now.by_rack order c.in_ok-waves.waves)
      c.deref.ensures.value c.in_ok-waves.ensures.placed;
  ledgers = λ ledgers are. c.in_ok-waves.ensures.ledgers ledgers (all_counted c.args.gathered.now ledgers are);
}
