-- The first holdings of a ledger.
use Rattle.std.proofs.Common.{◌≡◌, ◌∙◌, ◌==◌, ◌++◌, Some, ap, cond, map, sym}
use Rattle.std.proofs.lemmas.Bool.{eqb-true}
use Rattle.std.specs.BTreeMap.{get}
use Rattle.std.specs.Cmp.{unsigned_tied}
use Rattle.std.specs.Ordering.{nat_cmp}
use Rattle.reh_inputs.specs.ByLedger.{held_in}
use Rattle.reh_inputs.proofs.ByLedgerLaws.{first_held}
use Rattle.reh_inputs.proofs.by_ledger.add_first.Goals as goal

pub returns : goal.returns
returns c = λ q.
    let before = get nat_cmp c.args.by_ledger.now in
    let own = c.args.ledger in
    let new : get nat_cmp c.insert.new.self q ≡ cond (own == q) (Some c.extend.new.held) (before q) =
    c.in_ok-insert.ensures.updates.0 q ∙ (λ i. cond (unsigned_tied own q i) (Some c.extend.new.held) (before q)) in
    ap held_in new
    ∙ first_held (own == q) (before q) c.extend.new.held c.args.holdings.now
    (λ is. ap before (sym (eqb-true own q is)) ∙ c.requires)
    (c.in_ok-extend.ensures ∙ ap (λ hs. map (λ h. h.now) hs ++ c.args.holdings.now) c.new-held.ensures.items)
