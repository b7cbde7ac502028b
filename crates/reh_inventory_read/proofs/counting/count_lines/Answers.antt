-- The census of the lines that were read.
use Rattle.std.proofs.Common.{true, false, ◌++◌, ◌∷◌}
use Rattle.reh_inventory_read.specs.Counted.{GoesOn, IsCounting}
use Rattle.reh_inventory_read.specs.Passes.{AddsRead}
use Rattle.reh_inventory_read.proofs.LineLaws.{reads_further}
use Rattle.reh_inventory_read.proofs.counting.count_lines.Goals as goal

pub returns : goal.returns
returns g c =
    let old = g.B.Read.remaining c.args.reader.now in
    let left = g.B.Read.remaining c.count_first.new.reader in
    let new = g.B.Read.remaining c.add_all.new.reader in
    let strict = c.args.is_strict in
    let names = c.args.names in
    let was : IsCounting false strict names old left c.in_ok-count.count = c.in_ok-count.ensures in
    let more : AddsRead GoesOn true left new c.in_ok-count.count c.add_all.new.pass = c.in_ok-add_all.ensures in
    c.in_ok-counted.ensures strict names old new record {
      first = was.first;
      lines = was.lines ++ more.lines;
      counted = more.added.counting names strict was.first was.lines was.counted;
      read = reads_further true old left new (was.first ∷ was.lines) more.lines was.read more.read;
    }
