use Rattle.std.proofs.Common.{◌≡◌, true, is_some}
use Rattle.reh_types.specs.declared.moves.Move.TheVariants.{Do}
use Rattle.reh_model.specs.Cluster.{Cluster}
use Rattle.reh_commands.specs.declared.commands.Command.{Command}
use Rattle.reh_commands.specs.declared.commands.Command.TheVariants.{Make, Checkout}
use Rattle.reh_lint.specs.Ledgers.{ids_of, missing_ledger, refusal_at}
use Rattle.reh_lint.proofs.MissingLaws.{event_refused, reached, scan_refused}
use Rattle.reh_lint.proofs.laws.missing_ledgers_are_refused.Goals as goal

refused : (s t : Cluster) → ids_of t ≡ ids_of s → (command : Command) → is_some (missing_ledger s command) ≡ true
    → is_some (refusal_at t command) ≡ true
refused s t same (Make (Do event)) e = event_refused s t same event e
refused s t same (Checkout aim) e = scan_refused s t same aim e
refused s t same command e = absurd (cc)

pub returns : goal.returns
returns c = λ s t command at e. refused s t (reached at.0 s t at.1) command e
