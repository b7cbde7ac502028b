-- Two sets are equal exactly where their words are.
use Rattle.std.proofs.Common.{◌∙◌, arith}
use Rattle.reh_types.specs.Same.{same_members}
use Rattle.reh_types.proofs.BitLaws.{same_members-word}
use Rattle.reh_types.proofs.bookies.BookieSetPartialEq.eq.Goals as goal

pub returns : goal.returns
returns c =
    same_members-word c.self.inside.bits c.other.inside.bits (omega arith) (omega arith)
    ∙ (λ i. same_members (c.self.view_is i) (c.other.view_is i))
