-- The names of the lines that were read, in their order.
use Rattle.std.proofs.Common.{◌∙◌, ℕ, List, true, ap, subst, IsPermutation}
use Rattle.reh_inventory_read.specs.Named.{AddsNames, with_lines}
use Rattle.reh_inventory_read.specs.Passes.{AddsRead}
use Rattle.reh_inventory_read.proofs.naming.names_in.Goals as goal

pub returns : goal.returns
returns g c =
    let read : AddsRead AddsNames true (g.B.Read.remaining c.args.reader.now) (g.B.Read.remaining c.add_all.new.reader) c.new-names.result c.add_all.new.pass =
    c.in_ok-add_all.ensures in
    record {
      lines = read.lines;
      all = read.read;
      said = read.added.said;
      are_read = read.added.are_read;
      same =
          subst (λ (found : List (List ℕ)). IsPermutation found c.in_ok-ordered.ordered)
          (read.added.names ∙ ap (λ (names : List (List ℕ)). with_lines names read.added.said) c.new-names.ensures)
          c.in_ok-ordered.ensures.same;
      in_order = c.in_ok-ordered.ensures.ordered;
    }
