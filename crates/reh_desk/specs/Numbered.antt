-- What contracts see of a ticket and of a finding.
use Rattle.std.specs.Prelude.{ℕ}
use Rattle.reh_types.specs.declared.contents.Content.{Content}

-- a ticket's number, and what a scan with it finds; or a finding's number, and what was found
pub record Numbered : Type 0 where
  pub number : ℕ
  pub content : Content
