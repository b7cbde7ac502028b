-- An index of the ensemble carries the entry where its rank is below the quorum; one outside carries none.
use Rattle.std.proofs.Common.{◌≡◌, false, sym, ◌∙◌, arith, nat_lt}
use Rattle.std.proofs.lemmas.Bool.Decides.{nat_tests}
use Rattle.reh_model.proofs.StripingLaws.{is_striped-rank_of, is_striped-outside}
use Rattle.reh_cut.proofs.said.is_striped.Goals as goal

pub returns-then-index-size : goal.returns-then-index-size
returns-then-index-size c =
    sym (is_striped-rank_of c.args.entry c.args.index c.args.size c.args.quorum c.requires.some c.requires.within
    (omega arith))

pub returns-else-index-size : goal.returns-else-index-size
returns-else-index-size c =
    let no : nat_lt c.args.index c.args.size ≡ false = grind (arith, nat_tests) in
    no ∙ sym (is_striped-outside c.args.entry c.args.index c.args.size c.args.quorum c.requires.within (omega arith))
