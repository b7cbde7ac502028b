-- What is said of a picture or a script that is checked.
use Rattle.std.specs.Prelude.{◌≡◌, ◌==◌, ℕ, Bool, true, false, if◌then◌else◌, List, ◌++◌, length, string_bytes, codes, Ok, String}
use Rattle.std.specs.Fmt.{decimal}
use Rattle.std.specs.List.{filter}
use Rattle.std.specs.declared.alloc.Global.{Global}
use Rattle.reh_model.specs.Cluster.{Cluster}
use Rattle.reh_lines.specs.Lines.{answered_lines}
use Rattle.reh_picture.specs.Counts.{counts_of, counts_text}
use Rattle.reh_picture.specs.Pictures.{located_picture_of}
use Rattle.reh_lint.specs.Lints.{findings, is_command, is_faulty}
use Rattle.reh_check_json.specs.Objects as objects
use Rattle.reh_check_json.specs.declared.objects.CheckedScript.{CheckedScript}

-- as JSON, or else a line ok and then what is counted
abbrev pub picture_text : Bool → Cluster → List ℕ
picture_text true state = objects.picture_text (counts_of state)
picture_text false state = codes "ok\n" ++ (counts_text (counts_of state) ++ codes "\n")

-- how many lines of a script ask for a command, and how many are faulty, where the bookies have these names
abbrev pub commands_in : List (List ℕ) → List (List ℕ) → ℕ
commands_in names lines = length (filter (is_command names) lines)

abbrev pub faulty_in : List (List ℕ) → List (List ℕ) → ℕ
faulty_in names lines = length (filter (is_faulty names) lines)

-- the last line
abbrev pub sum_text : ℕ → ℕ → List ℕ
sum_text commands faulty =
    codes "commands " ++ (decimal commands ++ (codes " faulty " ++ (decimal faulty ++ codes "\n")))

-- of the lines of a script in this file, on a picture that shows this state
abbrev pub script_text : Bool → Cluster → List ℕ → List (List ℕ) → List ℕ
script_text true state path lines = objects.checked_text (counts_of state) state lines
script_text false state path lines =
    findings path state 1 lines ++ sum_text (commands_in state.names lines) (faulty_in state.names lines)

-- the text is what is said of the picture of these bytes
pub record SaysOfPicture (as_json : Bool) (bytes : List ℕ) (text : String Global) : Type 0 where
  pub state : Cluster
  pub shown : located_picture_of bytes ≡ Ok state
  pub says : string_bytes text ≡ picture_text as_json state

-- what is said of a script, and how many of its lines are faulty
pub record SaysOfScript (as_json : Bool) (state : Cluster) (path script : List ℕ) (checked : CheckedScript) : Type 0 where
  pub says : string_bytes checked.text ≡ script_text as_json state path (answered_lines false script)
  pub counts : checked.faulty ≡ faulty_in state.names (answered_lines false script)

-- 3 where a line is faulty
abbrev pub status_by : ℕ → ℕ
status_by faulty = if faulty == 0 then 0 else 3

abbrev pub check_status : List (List ℕ) → List ℕ → ℕ
check_status names script = status_by (faulty_in names (answered_lines false script))

-- the status of a check of some script, on some picture
pub record IsChecked (status : ℕ) : Type 0 where
  pub picture : List ℕ
  pub state : Cluster
  pub shown : located_picture_of picture ≡ Ok state
  pub script : List ℕ
  pub status_is : status ≡ check_status state.names script
