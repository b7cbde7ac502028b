-- Why no question can be asked of a state.
use Rattle.std.specs.Prelude.{ℕ, List, ◌++◌, codes}
use Rattle.std.specs.Fmt.{decimal}
use Rattle.reh_known.specs.declared.doubts.Doubt.{Doubt}
use Rattle.reh_known.specs.declared.doubts.Doubt.TheVariants.{ShownEmpty, TookCopies, OtherEnd, Refilled}

abbrev pub doubt_text : Doubt → List ℕ → ℕ → List ℕ
doubt_text ShownEmpty bookie ledger =
    codes "bookie " ++ (bookie ++ (codes " is empty and has entries of ledger " ++ decimal ledger))
doubt_text TookCopies bookie ledger =
    codes "nothing tells what " ++ (bookie ++ (codes " held of ledger " ++ (decimal ledger ++ codes " before it took copies")))
doubt_text OtherEnd bookie ledger =
    codes "nothing tells for sure what "
    ++ (bookie ++ (codes " held of ledger " ++ (decimal ledger ++ codes " before its end changed")))
doubt_text Refilled bookie ledger =
    codes "a recovery of ledger " ++ (decimal ledger ++ (codes " would count on " ++ (bookie ++ codes " that was empty")))
