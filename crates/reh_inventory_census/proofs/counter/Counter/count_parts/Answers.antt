-- The parts of one ledger.
use Rattle.std.proofs.Common.{◌≡◌, ◌∙◌, ◌∷◌, [], List, Option, ap, sym, subst}
use Rattle.std.specs.Option.{option_map_or}
use Rattle.reh_inventory.specs.declared.ledgers.LedgerLine.{LedgerLine}
use Rattle.reh_inventory_census.specs.declared.parts.Other.{Other}
use Rattle.reh_inventory_census.specs.Counters.{CountsParts, with_count}
use Rattle.reh_inventory_census.specs.Parts.{parts_of, second}
use Rattle.reh_inventory_census.proofs.counter.Counter.count_parts.Goals as goal

pub returns : goal.returns
returns c =
    let first : LedgerLine = c.split-other.new.line in
    let other : LedgerLine = c.make_second.new.line in
    let are : parts_of c.args.line.now ≡ first ∷ other ∷ [] =
    sym c.split-other.ensures
    ∙ ap (λ (o : Option Other). first ∷ option_map_or (λ other. second first other ∷ []) o []) c.in-Some.is
    ∙ (λ i. first ∷ sym c.in_ok-make_second.ensures i ∷ []) in
    subst (λ (ps : List LedgerLine). CountsParts ps (with_count c.args.self.now c.add.new.self)) (sym are)
    (c.in_ok-add.ensures c.args.self.now (first ∷ []) (other ∷ []) c.in_ok-count.ensures c.in_ok-more.ensures)
