-- The empty map says what no holdings do, and at the end the map says what all of them do.
use Rattle.std.proofs.Common.{◌≡◌, take, ap, ◌∙◌}
use Rattle.std.proofs.lemmas.List.{take_all}
use Rattle.std.specs.Map.{lookup}
use Rattle.std.specs.BTreeMap.{is_at}
use Rattle.std.specs.Ordering.{nat_cmp}
use Rattle.reh_types.specs.Sets.{triples, items, empty}
use Rattle.reh_model.specs.Contents.{Contents, greatest_held}
use Rattle.reh_picture.specs.Contents.{held_in}
use Rattle.reh_picture.proofs.ContentsLemmas.{from_list-fold}
use Rattle.reh_picture.proofs.contents.greatest_ends.Goals as goal

pub loop-holding-init : goal.loop-holding-init
unfolding items empty
loop-holding-init c = λ l. ap (λ es. lookup (is_at (nat_cmp l)) es) c.new-ends.ensures.empty

pub returns : goal.returns
returns c =
    let all : take c.loop-holding.holding-index c.args.holdings.now ≡ c.args.holdings.now =
    take_all c.loop-holding.holding-index c.args.holdings.now c.loop-holding-test.false in
    λ l. c.loop-holding.invariant l
    ∙ ap (λ (s : Contents). greatest_held s l) (from_list-fold triples _ ∙ ap held_in all)
