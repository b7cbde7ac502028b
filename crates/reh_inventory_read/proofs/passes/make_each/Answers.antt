-- Each line keeps its bytes.
use Rattle.std.proofs.Common.{◌≡◌, ◌∙◌, ◌++◌, ℕ, List, ap, append-nil, arith, length, rules, slice_index_or, sym, take}
use Rattle.std.proofs.lemmas.List.{take_all, drop_all}
use Rattle.reh_inventory_read.specs.Passes.{bytes_of}
use Rattle.reh_inventory_read.specs.declared.passes.MadeLine.{MadeLine}
use Rattle.reh_inventory_read.proofs.PassLaws.{same-bytes}
use Rattle.reh_inventory_read.proofs.passes.make_each.Goals as goal

pub returns-clause-same : goal.returns-clause-same
returns-clause-same g c =
    let was = c.in_ok-lines.lines in
    let are : List (MadeLine _) = c.for_each_mut.new.s in
    let long : length are ≡ length was.items = search rules in
    ap bytes_of
    (ap (λ (rest : List (MadeLine _)). take was.len (are ++ rest)) (drop_all (length are) was.items (omega (arith, long)))
    ∙ ap (take was.len) (append-nil are) ∙ take_all was.len are (omega (arith, long, was.ok.0)))
    ∙ same-bytes was.items are long (λ i d below.
    let change = (c.for_each_mut.ensures i d (omega (arith, below, ap (λ (l : List (MadeLine _)). length l) c.deref_mut.ensures.value))).1 in
    ◌∙◌ {A = List ℕ} (ap (λ (l : MadeLine _). l.bytes.items) (sym change.left))
    (◌∙◌ {A = List ℕ} change.call.1
    (◌∙◌ {A = List ℕ} (ap (λ (l : MadeLine _). l.bytes.items) change.argument_is)
    (ap (λ (ls : List (MadeLine _)). (slice_index_or ls i d).bytes.items) c.deref_mut.ensures.value))))
    ∙ c.in_ok-lines.ensures
