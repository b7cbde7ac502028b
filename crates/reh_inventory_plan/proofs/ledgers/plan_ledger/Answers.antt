-- What was done, step by step.
use Rattle.std.proofs.Common.{subst, sym, List, ℕ, string_bytes}
use Rattle.std.specs.Prelude.{Option}
use Rattle.reh_inventory_plan.specs.Ledgers.{AreFiles}
use Rattle.reh_inventory_plan.specs.declared.ledgers.LedgerFiles.{LedgerFiles}
use Rattle.reh_inventory_plan.specs.Pictures.{IsPicturePlan}
use Rattle.reh_inventory_plan.proofs.ledgers.plan_ledger.Goals as goal

pub returns : goal.returns
returns c =
    let planned = c.in_ok-planned.planned in
    record {
      part = c.in_ok-part.part;
      is_part = c.in_ok-part.ensures;
      text = string_bytes c.in_ok-text.text;
      cut = c.in_ok-text.ensures.cut;
      plan = planned;
      is_plan = subst (λ (text : List ℕ). IsPicturePlan c.args.asked.now text planned) c.as_bytes.ensures.value
          c.in_ok-planned.ensures;
      sums = c.in_ok-sums.ensures.sums;
      files = subst (λ (files : Option LedgerFiles). AreFiles c.args.asked.now.keeps_files (string_bytes c.in_ok-text.text) planned.plan.lines files)
          (sym c.in_ok-sums.ensures.files) c.in_ok-files.ensures;
    }
