-- Why no question is asked after a script.
use Rattle.std.specs.Prelude.{◌≡◌, ℕ, List, ◌++◌, codes, string_bytes}
use Rattle.std.specs.Fmt.{decimal}
use Rattle.reh_fields.specs.Faults.{fault_text}
use Rattle.reh_after.specs.declared.faults.AfterFault.{AfterFault}
use Rattle.reh_after.specs.declared.faults.AfterFault.TheVariants as after
use Rattle.reh_after.specs.declared.faults.Unaccepted.{Unaccepted}
use Rattle.reh_files.specs.declared.faults.RunFault.{RunFault}
use Rattle.reh_files.specs.declared.faults.RunFault.TheVariants.{NoMemory, TooLong}
use Rattle.reh_questions.specs.Inputs.{IsUnfit, TellsRefused}

abbrev pub unaccepted_text : List ℕ → Unaccepted → List ℕ
unaccepted_text script first =
    script
    ++ (codes ":"
    ++ (decimal first.line
    ++ (codes ": "
    ++ (string_bytes first.answer ++ codes ": nothing is asked, as each command has to be accepted first"))))

abbrev pub doubt_text : List ℕ → List ℕ → List ℕ → List ℕ
doubt_text picture script doubt = picture ++ (codes ": " ++ (doubt ++ (codes ": nothing is asked after " ++ script)))

-- which fault of a run tells why the script in a file has no end on the picture in another that can be asked of
abbrev pub TellsUnplayed : List ℕ → List ℕ → AfterFault → RunFault → Type 0
TellsUnplayed picture script (after.Picture located) run = TellsRefused picture located run
TellsUnplayed picture script after.TooLong run = run ≡ TooLong
TellsUnplayed picture script (after.Unaccepted first) run = IsUnfit (unaccepted_text script first) run
TellsUnplayed picture script (after.Doubt doubt) run = IsUnfit (doubt_text picture script (string_bytes doubt)) run
TellsUnplayed picture script (after.Unheld fault) run =
    IsUnfit (script ++ (codes ": no picture holds the state at the end: " ++ fault_text fault)) run
TellsUnplayed picture script after.NoMemory run = run ≡ NoMemory
