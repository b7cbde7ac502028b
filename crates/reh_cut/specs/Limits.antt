-- Which limit of a picture ledgers of an inventory pass, in words, and what to do then.
use Rattle.std.specs.Prelude.{ℕ, List, ◌++◌, codes, nat_lt, if◌then◌else◌}
use Rattle.std.specs.Fmt.{decimal}
use Rattle.reh_cut.specs.declared.limits.LedgerLimit.{LedgerLimit}
use Rattle.reh_cut.specs.declared.limits.LedgerLimit.TheVariants as of_one
use Rattle.reh_cut.specs.declared.limits.Limit.{Limit}
use Rattle.reh_cut.specs.declared.limits.Limit.TheVariants as passed
use Rattle.reh_cut.specs.declared.limits.Past.{Past}
use Rattle.reh_cut.specs.declared.limits.Sum.{Sum}
use Rattle.reh_cut.specs.declared.limits.Total.{Total}
use Rattle.reh_cut.specs.declared.limits.TotalLimit.{TotalLimit}
use Rattle.reh_cut.specs.declared.limits.TotalLimit.TheVariants as of_all
use Rattle.reh_cut.specs.declared.limits.Twice.{Twice}
use Rattle.reh_cut.specs.declared.limits.WayOut.{WayOut}
use Rattle.reh_types.specs.declared.limits.TheConstants.{MAX_BOOKIES, MAX_ENSEMBLE_SIZE, MAX_ENTRY_ID}
use Rattle.reh_types.specs.declared.limits.TheConstants.{MAX_FRAGMENTS, MAX_LEDGER_ID, MAX_LEDGERS, MAX_PICTURE_BYTES}
use Rattle.reh_types.specs.declared.limits.TheConstants.{MAX_VERSION, MAX_WORDS}

abbrev pub way_text : WayOut → List ℕ
way_text way =
    codes ", and a picture up to "
    ++ (decimal MAX_ENTRY_ID ++ (codes ": --window K cuts " ++ (decimal way.0 ++ codes " of them")))

abbrev pub past_text_by : LedgerLimit → ℕ → List ℕ
past_text_by of_one.Id number =
    codes "the id "
    ++ (decimal number
    ++ (codes ", and a picture has ids up to "
    ++ (decimal MAX_LEDGER_ID ++ codes ": it can't be rehearsed, so ask ok-to-stop of the inventory")))
past_text_by of_one.EnsembleSize number =
    codes "the ensemble size "
    ++ (decimal number
    ++ (codes ", and a picture has sizes up to "
    ++ (decimal MAX_ENSEMBLE_SIZE ++ codes ": it can't be rehearsed, so ask ok-to-stop of the inventory")))
past_text_by of_one.Version number =
    codes "the version "
    ++ (decimal number
    ++ (codes ", and a picture has versions up to "
    ++ (decimal MAX_VERSION ++ codes ": leave the version out of its line")))
past_text_by of_one.Fragments number =
    decimal number
    ++ (codes " fragments, and in a picture it may have "
    ++ (decimal MAX_FRAGMENTS ++ codes ": it can't be rehearsed, so ask ok-to-stop of the inventory"))

abbrev pub past_text : Past → List ℕ
past_text past = past_text_by past.limit past.number

-- how a smaller picture than one of so many ledgers is cut, if it can be
abbrev pub smaller_text : ℕ → List ℕ
smaller_text ledgers =
    if nat_lt 1 ledgers then codes "cut fewer ledgers"
    else codes "no smaller part of it can be cut, so ask ok-to-stop of the inventory"

abbrev pub sum_text_by : TotalLimit → ℕ → List ℕ
sum_text_by of_all.Ledgers number =
    codes "these are " ++ (decimal number ++ (codes " ledgers, and a picture has at most " ++ decimal MAX_LEDGERS))
sum_text_by of_all.Bookies number =
    codes "these ledgers name "
    ++ (decimal number ++ (codes " bookies, and a picture has at most " ++ decimal MAX_BOOKIES))
sum_text_by of_all.Words number =
    codes "these ledgers take "
    ++ (decimal number ++ (codes " words of 64 entries, and a picture has at most " ++ decimal MAX_WORDS))
sum_text_by of_all.Bytes number =
    codes "these ledgers take "
    ++ (decimal number ++ (codes " bytes, and a picture has at most " ++ decimal MAX_PICTURE_BYTES))

abbrev pub sum_text : Sum → List ℕ
sum_text sum = sum_text_by sum.limit sum.number

abbrev pub total_text : Total → List ℕ
total_text t = sum_text t.sum ++ (codes ": " ++ smaller_text t.ledgers)

abbrev pub twice_text : Twice → List ℕ
twice_text twice =
    twice.0
    ++ (codes " twice in its ensemble from entry "
    ++ (decimal twice.1 ++ codes " on, and a picture has no bookie twice: leave this ledger out"))

abbrev pub limit_text : Limit → List ℕ
limit_text (passed.Ledger id past) = codes "ledger " ++ (decimal id ++ (codes " has " ++ past_text past))
limit_text (passed.Entries id last way) =
    codes "ledger " ++ (decimal id ++ (codes " has entries up to " ++ (decimal last ++ way_text way)))
limit_text (passed.Fragment id first way) =
    codes "ledger "
    ++ (decimal id ++ (codes " has a fragment from entry " ++ (decimal first ++ (codes " on" ++ way_text way))))
limit_text (passed.Twice id twice) = codes "ledger " ++ (decimal id ++ (codes " has " ++ twice_text twice))
limit_text (passed.Total total) = total_text total
