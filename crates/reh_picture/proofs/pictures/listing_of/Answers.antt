-- The ledgers are made of what is lent of the parts.
use Rattle.std.proofs.Common.{◌≤◌, List, sym, subst}
use Rattle.std.specs.Prelude.{All}
use Rattle.reh_picture.specs.Contents.{Holding, IsGreatest, held_in}
use Rattle.reh_picture.proofs.pictures.listing_of.Goals as goal

pub reaching-requires : goal.reaching-requires
reaching-requires c =
    subst (λ (holdings : List Holding). All (λ holding. All (λ range. range.0 ≤ range.1) holding.ranges) holdings)
    (sym c.deref.ensures.value) c.requires

pub returns-clause-ledgers : goal.returns-clause-ledgers
returns-clause-ledgers c =
    let told = c.in_ok-ledgers.ensures in
    (told.0, subst (λ (holdings : List Holding). IsGreatest told.0 (held_in holdings)) c.deref.ensures.value told.1, told.2)
