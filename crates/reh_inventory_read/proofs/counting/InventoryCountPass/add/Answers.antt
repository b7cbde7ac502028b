-- One line more was counted.
use Rattle.std.proofs.Common.{subst}
use Rattle.std.specs.Prelude.{Result}
use Rattle.reh_inventory_census.specs.Census.{IsCountedLine}
use Rattle.reh_inventory_census.specs.declared.census.CountedLine.{CountedLine}
use Rattle.reh_inventory_census.specs.declared.faults.CountFault.{CountFault}
use Rattle.reh_inventory_read.specs.Counted.{IsCountMade}
use Rattle.reh_inventory_read.proofs.CountedLaws.{still-counted}
use Rattle.reh_inventory_read.proofs.counting.InventoryCountPass.add.Goals as goal

pub returns : goal.returns
returns c = λ bytes made.
    let count = c.args.self.now in
    let counted : IsCountedLine count bytes c.in_ok-line.line =
    subst (λ (line : Result CountedLine CountFault). IsCountMade count bytes line) c.in_ok-line.was made in
    record {
      counting = λ names strict first before was. c.in_ok-add.ensures.counted names strict first before was bytes counted;
      others = λ other line is. still-counted count c.add.new.self other line c.in_ok-add.ensures.others is;
    }
