-- No line, and some lines and then others, lead from what there was to what there is: the names that lines name, and what was
-- counted of them.
use Rattle.std.proofs.Common.{◌∙◌, ℕ, ◌++◌, [], List, Ok, ap, append-nil, append_assoc, map, refl, subst, sym}
use Rattle.std.proofs.lemmas.List.{map-append}
use Rattle.std.proofs.lemmas.List.Sums.{fold-append}
use Rattle.reh_inventory.specs.Lines.{located_line_of}
use Rattle.reh_inventory_census.specs.declared.census.InventoryCount.{InventoryCount}
use Rattle.reh_inventory_census.specs.Census.{IsCount}
use Rattle.reh_inventory_census.specs.Numbers.{with_line}
use Rattle.reh_inventory_read.specs.Counted.{GoesOn}
use Rattle.reh_inventory_read.specs.Named.{AddsNames, with_lines}

pub names-nowhere : (names : List (List ℕ)) → AddsNames [] names names
names-nowhere names = record { said = []; are_read = refl; names = refl }

pub names-further : (lines others one mid other : List (List ℕ)) → AddsNames lines one mid
    → AddsNames others mid other → AddsNames (lines ++ others) one other
names-further lines others one mid other first second = record {
  said = first.said ++ second.said;
  are_read =
      map-append located_line_of lines others
      ∙ ap (λ ls. ls ++ map located_line_of others) first.are_read
      ∙ ap (λ ls. map Ok first.said ++ ls) second.are_read
      ∙ sym (map-append Ok first.said second.said);
  names =
      second.names
      ∙ ap (λ (names : List (List ℕ)). with_lines names second.said) first.names
      ∙ sym (fold-append with_line one first.said second.said);
}

-- the same of what was counted
pub goes-nowhere : (count : InventoryCount) → GoesOn [] count count
goes-nowhere count = record {
  counting = λ names strict first before was.
      subst (λ (lines : List (List ℕ)). IsCount names strict first lines count) (sym (append-nil before)) was;
  others = λ bytes made is. is;
}

pub goes-further : (lines others : List (List ℕ)) (one mid other : InventoryCount) → GoesOn lines one mid
    → GoesOn others mid other → GoesOn (lines ++ others) one other
goes-further lines others one mid other first second = record {
  counting = λ names strict head before was.
      subst (λ (all : List (List ℕ)). IsCount names strict head all other) (append_assoc before lines others)
      (second.counting names strict head (before ++ lines) (first.counting names strict head before was));
  others = λ bytes made is. second.others bytes made (first.others bytes made is);
}
