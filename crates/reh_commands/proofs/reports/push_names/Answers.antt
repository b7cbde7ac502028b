use Rattle.std.proofs.Common.{ℕ, List, ◌∙◌, ◌++◌, refl, map, codes, arith}
use Rattle.reh_commands.specs.Texts.{behind_spaces, name_of}
use Rattle.reh_commands.proofs.ReportLaws.{printed_more}
use Rattle.reh_commands.proofs.reports.push_names.Goals as goal

pub loop-bookie-preserved : goal.loop-bookie-preserved
loop-bookie-preserved c =
    let names = c.args.names.now in
    rw c.in_ok-push_name.ensures (printed_more (λ (bookies : List ℕ). behind_spaces (map (name_of names) bookies)) (λ b. codes " " ++ name_of names b) (λ b bs. refl) _ c.args.bookies.now c.loop-bookie.bookie-index c.bookie-item.result (omega arith) c.bookie-item.is
    ∙ c.loop-bookie.invariant)
