-- The holdings of the ledger are those that were found by its id, and none where none was.
use Rattle.std.proofs.Common.{rules, ◌≡◌, ◌∙◌, Bor, None, Some, ap, map, sym}
use Rattle.std.proofs.lemmas.Option.{IfSome_then}
use Rattle.std.proofs.lemmas.Result.{MatchResult-weaker}
use Rattle.std.specs.BTreeMap.{get}
use Rattle.std.specs.Ordering.{nat_cmp}
use Rattle.reh_picture.specs.Contents.{Holding}
use Rattle.reh_inputs.specs.ByLedger.{held_in}
use Rattle.reh_inputs.proofs.FaultLaws.{none_then}
use Rattle.reh_inputs.proofs.ledgers.ledger_of.Goals as goal

pub returns-in-Some : goal.returns-in-Some
returns-in-Some c =
    let id = c.args.listed.now.id in
    let found : get nat_cmp c.args.by_ledger.now id ≡ Some c.in-Some.held.now = search rules in
    record {
      made = MatchResult-weaker c.ledger_with.result c.ledger_with.ensures.made (λ made is.
          IfSome_then made is (λ ledger is holdings are.
          is holdings
          (ap (map (λ (h : Bor Holding). h.now)) c.deref.ensures.value ∙ ap held_in (sym found) ∙ are id)))
          (λ _ nothing. nothing);
      unfit = MatchResult-weaker c.ledger_with.result c.ledger_with.ensures.unfit (λ made none.
          none_then made none (λ unfit holdings are.
          unfit holdings
          (ap (map (λ (h : Bor Holding). h.now)) c.deref.ensures.value ∙ ap held_in (sym found) ∙ are id)))
          (λ _ nothing. nothing);
    }

pub returns-in-None : goal.returns-in-None
returns-in-None c =
    let id = c.args.listed.now.id in
    let none : get nat_cmp c.args.by_ledger.now id ≡ None = search rules in
    record {
      made = MatchResult-weaker c.ledger_with-in-None.result c.ledger_with-in-None.ensures.made (λ made is.
          IfSome_then made is (λ ledger is holdings are. is holdings (ap held_in (sym none) ∙ are id)))
          (λ _ nothing. nothing);
      unfit = MatchResult-weaker c.ledger_with-in-None.result c.ledger_with-in-None.ensures.unfit (λ made is.
          none_then made is (λ unfit holdings are. unfit holdings (ap held_in (sym none) ∙ are id)))
          (λ _ nothing. nothing);
    }
