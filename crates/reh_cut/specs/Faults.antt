-- Why ledgers of an inventory have no picture, in words.
use Rattle.std.specs.Prelude.{◌≡◌, ◌≢◌, ℕ, List, ◌++◌, codes, Option, None, Some, Result, MatchResult}
use Rattle.std.specs.Fmt.{decimal}
use Rattle.reh_cut.specs.declared.faults.CutFault.{CutFault}
use Rattle.reh_cut.specs.declared.faults.CutFault.TheVariants.{Differs, HoldsThoughEmpty, Limit, NoLedger, NoMemory, NoPicture}
use Rattle.reh_cut.specs.declared.faults.CutFault.TheVariants.{NotWhole, NoWindow, OpenWindow, Untold}
use Rattle.reh_cut.specs.Limits.{limit_text}
use Rattle.reh_picture.specs.Expected.{located_text}
use Rattle.reh_window.specs.declared.faults.WindowFault.{WindowFault}
use Rattle.reh_window.specs.declared.faults.WindowFault.TheVariants as window

-- why the ledger of this id has no such window; no line of an inventory is unfit
abbrev pub no_window : ℕ → WindowFault → CutFault
no_window id (window.PastLast last) = NoWindow id last
no_window id (window.Unsettled first last) = OpenWindow id last
no_window id window.Unfit = Differs
no_window id window.NoMemory = NoMemory

abbrev pub fault_text : CutFault → List ℕ
fault_text NotWhole = codes "expected a last line: the file was cut"
fault_text (NoLedger id) = codes "no line has ledger " ++ (decimal id ++ codes ", or it could not be read")
fault_text (Limit limit) = limit_text limit
fault_text (NoWindow id last) = codes "the last window of ledger " ++ (decimal id ++ (codes " is " ++ decimal last))
fault_text (OpenWindow id last) =
    codes "ledger "
    ++ (decimal id
    ++ (codes " isn't closed: of its windows with entries of the last fragment only "
    ++ (decimal last ++ codes " has a picture")))
fault_text (HoldsThoughEmpty id) =
    codes "a bookie that is shown as empty holds entries of ledger " ++ (decimal id ++ codes ": leave out one of the two")
fault_text (Untold id bookie) =
    codes "nobody says what "
    ++ (bookie
    ++ (codes " holds of ledger "
    ++ (decimal id ++ codes ": --assume-held or --assume-empty says what stands for that")))
fault_text (NoPicture located) = codes "the picture of these ledgers is refused: " ++ located_text located
fault_text Differs = codes "the picture of these ledgers isn't what their lines say: a fault of this program"
fault_text NoMemory = codes "expected more memory"

-- The call fails with this fault, and succeeds where there is none; but for lack of memory it may always fail.
abbrev pub FailsWith : {A : Type 0} → Result A CutFault → Option CutFault → Type 0
FailsWith result fault = MatchResult result (λ _. fault ≡ None) (λ failure. failure ≢ NoMemory → fault ≡ Some failure)
