-- Reading lines one after the other, as a loop does.
use Rattle.std.proofs.Common.{◌≡◌, ℕ, ◌+◌, ◌<◌, true, false, List, [], ◌∷◌, length, Result, Ok, Err, refl, sym, ap, ◌∙◌, arith}
use Rattle.std.specs.Prelude.{codes, ◌==◌}
use Rattle.std.specs.Str.{bytes_eq}
use mathlib.Core.Bool.{true≢false}
use Rattle.std.proofs.lemmas.Bool.Decides.{nat_tests}
use Rattle.reh_census_file.specs.declared.faults.CensusFault.{CensusFault}
use Rattle.reh_census_file.specs.declared.faults.CensusFault.TheVariants as fault
use Rattle.reh_census_file.specs.declared.faults.Expected.{Expected}
use Rattle.reh_census_file.specs.declared.faults.Expected.TheVariants as expected
use Rattle.reh_census_file.specs.declared.faults.LineFault.{LineFault}
use Rattle.reh_census_file.specs.declared.faults.LineFault.TheVariants as stop
use Rattle.reh_census_file.specs.Drafts.{Draft, step}
use Rattle.reh_census_file.specs.Reading.{◌>>=◌, Fails, words_of}
use Rattle.reh_census_file.specs.Whole.{FailsAll, fault_at, placed, end_line, last_at, body_at, parts_of}
use Rattle.reh_census_file.proofs.LineLaws.{parts_of-more}

-- what stops a line stops the text
pub fails_at : {A B : Type 0} (line : ℕ) (why : LineFault) (read : Result A Expected) (f : A → Result B CensusFault) → Fails why read → FailsAll (fault_at line why) (placed line read >>= f)
fails_at line stop.NoMemory read f fails = tt
fails_at line (stop.At what) read f fails = rw fails refl

some_part : (parts : List (List ℕ)) → 0 < length parts → (length parts == 0) ≡ false
some_part parts some = grind (arith, nat_tests)

-- the last line
pub body_at-end : (lines : ℕ) (d : Draft) (all parts : List (List ℕ)) (part first : List ℕ) (words : List (List ℕ)) → all ≡ part ∷ parts → 0 < length parts → words_of part ≡ first ∷ words → bytes_eq first (codes "end") ≡ true
    → body_at lines d all ≡ last_at lines d words parts
unfolding body_at
body_at-end lines d all parts part first words is some at ends = rw (is, some_part parts some, at, ends) refl

-- another line
pub body_at-more : (lines : ℕ) (d : Draft) (all parts : List (List ℕ)) (part first : List ℕ) (words : List (List ℕ)) → all ≡ part ∷ parts → 0 < length parts → words_of part ≡ first ∷ words → bytes_eq first (codes "end") ≡ false
    → body_at lines d all ≡ (placed (lines + 1) (step d first words) >>= λ more. body_at (lines + 1) more parts)
unfolding body_at
body_at-more lines d all parts part first words is some at other = rw (is, some_part parts some, at, other) refl

-- no whole line
pub body_at-cut : (lines : ℕ) (d : Draft) (all : List (List ℕ)) (part : List ℕ) → all ≡ part ∷ [] → body_at lines d all ≡ Err (fault.Line (lines + 1) expected.MoreLines)
unfolding body_at
body_at-cut lines d all part is = rw is refl

-- a line that goes on
pub goes_on : (lines : ℕ) (d more : Draft) (all parts : List (List ℕ)) (part first : List ℕ) (words : List (List ℕ)) (total : Result Draft CensusFault) → all ≡ part ∷ parts → 0 < length parts → words_of part ≡ first ∷ words → bytes_eq first (codes "end") ≡ false
    → step d first words ≡ Ok more → body_at lines d all ≡ total → body_at (lines + 1) more parts ≡ total
goes_on lines d more all parts part first words total is some at other stepped so_far =
    ap (λ r. placed (lines + 1) r >>= λ next. body_at (lines + 1) next parts) (sym stepped) ∙ sym (body_at-more lines d all parts part first words is some at other) ∙ so_far

-- a last line that something follows
pub last_at-more : (lines : ℕ) (d : Draft) (words : List (List ℕ)) (rest : List ℕ) → end_line lines d words ≡ Ok d → (length rest == 0) ≡ false → last_at lines d words (parts_of rest) ≡ Err (fault.Line (lines + 2) expected.NoMoreLines)
last_at-more lines d words [] ends some = absurd (true≢false some)
last_at-more lines d words (b ∷ bs) ends some = rw ends (parts_of-more b bs (lines + 2) d)
