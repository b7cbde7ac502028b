-- How help writes a command.
use Rattle.std.specs.Prelude.{ℕ, List, ◌++◌, map, codes}
use Rattle.reh_commands.specs.declared.verbs.Verb.{Verb}
use Rattle.reh_commands.specs.declared.words.Role.{Role}
use Rattle.reh_commands.specs.declared.words.Role.TheVariants.{Bookie, Worker, Ledger, Fragment, Index, Version, Ticks}
use Rattle.reh_commands.specs.Script.{form_of}
use Rattle.reh_commands.specs.Texts.{behind_spaces}

-- what stands for a word of this role
abbrev pub role_text : Role → List ℕ
role_text Bookie = codes "BOOKIE"
role_text Worker = codes "WORKER"
role_text Ledger = codes "LEDGER"
role_text Fragment = codes "FRAGMENT"
role_text Index = codes "INDEX"
role_text Version = codes "VERSION"
role_text Ticks = codes "N"

-- its verb, and what stands for each word after it, with a space between each two
abbrev pub verb_text : Verb → List ℕ
verb_text verb = (form_of verb).name ++ behind_spaces (map role_text (form_of verb).roles)
