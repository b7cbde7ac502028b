-- What help says.
use Rattle.std.specs.Prelude.{ℕ, List}
use Rattle.reh_help.specs.Pages.{HasTitle, IsCommandPageOf, IsRefusalsPage, IsScriptPage}
use Rattle.reh_words.specs.declared.tasks.HelpTopic.{HelpTopic}
use Rattle.reh_words.specs.declared.tasks.HelpTopic.TheVariants as topic

-- the page of a topic; a word of which there is none has no page
abbrev pub IsPageOn : HelpTopic → List ℕ → Type 0
IsPageOn topic.Script page = IsScriptPage page
IsPageOn topic.Refusals page = IsRefusalsPage page
IsPageOn (topic.Refusal refusal) page = HasTitle refusal page
IsPageOn (topic.Command verb) page = IsCommandPageOf verb page
IsPageOn (topic.Unknown word) page = ⊥
