use Rattle.std.proofs.Common.{◌≡◌, ◌++◌, drop, string_bytes}
use Rattle.std.specs.Prelude.{flat_map}
use Rattle.reh_commands.specs.Texts.{text_of, ledger_lines}
use Rattle.reh_commands.proofs.reports.push_ledgers.Given as goal

-- the text so far and the lines of the ledgers that are left
abbrev pub invariant-loop-ledger : goal.invariant-loop-ledger
invariant-loop-ledger l =
    string_bytes l.text ++ text_of (flat_map (ledger_lines l.names) (drop l.ledger-index l.ledgers)) ≡ string_bytes l.fn.text ++ text_of (flat_map (ledger_lines l.names) l.ledgers)
