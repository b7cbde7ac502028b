-- The greatest entries that were found are those to which the words reach.
use Rattle.std.proofs.lemmas.Result.{IfOk-weaker}
use Rattle.std.specs.BTreeMap.{get}
use Rattle.std.specs.Ordering.{nat_cmp}
use Rattle.reh_picture.proofs.pictures.reaching.Goals as goal

pub returns : goal.returns
returns c =
    IfOk-weaker c.with_words.result _ _
    (λ ledgers made. (get nat_cmp c.in_ok-greatest.greatest, c.in_ok-greatest.ensures, made)) c.with_words.ensures
