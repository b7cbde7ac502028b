use Rattle.reh_lint.proofs.findings.Known.near.Goals as goal

pub returns-in-UnknownCommand : goal.returns-in-UnknownCommand
returns-in-UnknownCommand c = rw c.in-UnknownCommand.is c.near_command.ensures

pub returns-in-UnknownName : goal.returns-in-UnknownName
returns-in-UnknownName c = rw c.in-UnknownName.is c.near_name.ensures
