-- Which lines of a script are answered.
use Rattle.std.proofs.Common.{◌≡◌, ℕ, ◌+◌, ◌-◌, ◌<◌, ◌≤◌, Bool, true, false, cond, List, ◌++◌, length, take, sym, ap, ◌∙◌}
use Rattle.std.proofs.Common.{arith, inl, inr}
use Rattle.std.specs.Prelude.{◌&&◌, not}
use Rattle.std.proofs.lemmas.Bool.Decides.{nat_tests}
use mathlib.Core.List.{append_assoc}
use Rattle.std.proofs.Math.Seq.{take-append-add}
use Rattle.std.proofs.lemmas.Bool.{cases_lt}
use Rattle.std.proofs.lemmas.List.{take_all}
use Rattle.reh_types.specs.declared.limits.TheConstants.{MAX_SCRIPT_BYTES}
use Rattle.reh_lines.specs.Lines.{lines_of, ended, is_script, answered_lines}
use Rattle.reh_lines.proofs.Parts.{ended-front, ended-stays, lines_of-ended}

pub is_script-within : (script : List ℕ) → length script ≤ MAX_SCRIPT_BYTES → is_script script ≡ true
is_script-within script within = grind (arith, nat_tests)

pub not_script : (script : List ℕ) → MAX_SCRIPT_BYTES < length script → is_script script ≡ false
not_script script long = grind (arith, nat_tests)

-- of a script that is too long
pub answered_lines-long : (failed : Bool) (script : List ℕ) → is_script script ≡ false
    → answered_lines failed script ≡ lines_of (ended (take MAX_SCRIPT_BYTES script))
unfolding answered_lines
answered_lines-long failed script long =
    ap (λ (t : Bool). cond (t && not failed) (lines_of script) (lines_of (ended (take MAX_SCRIPT_BYTES script)))) long

-- of a script after which a read failed
pub answered_lines-failed : (script : List ℕ) → length script ≤ MAX_SCRIPT_BYTES
    → answered_lines true script ≡ lines_of (ended script)
unfolding answered_lines
answered_lines-failed script within =
    ap (λ (t : Bool). cond (t && false) (lines_of script) (lines_of (ended (take MAX_SCRIPT_BYTES script))))
    (is_script-within script within)
    ∙ ap (λ (text : List ℕ). lines_of (ended text)) (take_all MAX_SCRIPT_BYTES script within)

-- of any other
pub answered_lines-whole : (script : List ℕ) → length script ≤ MAX_SCRIPT_BYTES
    → answered_lines false script ≡ lines_of script
unfolding answered_lines
answered_lines-whole script within =
    ap (λ (t : Bool). cond (t && true) (lines_of script) (lines_of (ended (take MAX_SCRIPT_BYTES script))))
    (is_script-within script within)

-- of a script that begins so, the lines that end there come first
pub answered_front : (script more : List ℕ) → length script ≤ MAX_SCRIPT_BYTES
    → (rest : List (List ℕ)) × (answered_lines false (script ++ more) ≡ lines_of (ended script) ++ rest)
answered_front script more within =
    elim (cases_lt MAX_SCRIPT_BYTES (length (script ++ more))) [
      | inl long ↦
          let room : length script + (MAX_SCRIPT_BYTES - length script) ≡ MAX_SCRIPT_BYTES = omega arith in
          let next : List ℕ = take (MAX_SCRIPT_BYTES - length script) more in
          let back = ended-stays script next in (
            lines_of back.0,
            answered_lines-long false (script ++ more) (not_script (script ++ more) long)
                ∙ ap (λ (n : ℕ). lines_of (ended (take n (script ++ more)))) (sym room)
                ∙ ap (λ (text : List ℕ). lines_of (ended text))
                (take-append-add script more (MAX_SCRIPT_BYTES - length script))
                ∙ ap lines_of back.1 ∙ lines_of-ended script back.0,
          )
      | inr short ↦
          let back = ended-front script in (
            lines_of (back.0 ++ more),
            answered_lines-whole (script ++ more) (omega arith)
                ∙ ap (λ (text : List ℕ). lines_of (text ++ more)) back.1
                ∙ ap lines_of (append_assoc (ended script) back.0 more)
                ∙ lines_of-ended script (back.0 ++ more),
          )
    ]
