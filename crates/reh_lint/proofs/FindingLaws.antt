-- What is found in one line more.
use Rattle.std.proofs.Common.{◌≡◌, ◌∙◌, ◌+◌, ◌≤◌, ◌==◌, ◌++◌, ◌∷◌, [], ℕ, Bool, true, false, List, cond, ap, append_assoc, arith, length, refl, sym}
use Rattle.std.proofs.lemmas.Bool.Decides.{nat_tests}
use Rattle.std.specs.List.{filter}
use Rattle.reh_model.specs.Cluster.{Cluster}
use Rattle.reh_commands.specs.Answers.{asked}
use Rattle.reh_lines.specs.Lines.{lines_of}
use Rattle.reh_lint.specs.Lints.{finding_of, findings}

pub more_found : (path : List ℕ) (s : Cluster) (n : ℕ) (line : List ℕ) (more lines : List (List ℕ))
    (old new whole : List ℕ) → lines ≡ line ∷ more → old ++ findings path s n lines ≡ whole
    → new ≡ old ++ finding_of path s n line (asked s.names line) → new ++ findings path s (n + 1) more ≡ whole
more_found path s n line more lines old new whole is before next =
    ap (λ (t : List ℕ). t ++ findings path s (n + 1) more) next
    ∙ append_assoc old (finding_of path s n line (asked s.names line)) (findings path s (n + 1) more)
    ∙ ap (λ (ls : List (List ℕ)). old ++ findings path s n ls) (sym is)
    ∙ before

counted : (b : Bool) (line : List ℕ) (rest : List (List ℕ)) → length (cond b (line ∷ rest) rest) ≡ cond b 1 0 + length rest
counted true line rest = omega arith
counted false line rest = omega arith

pub more_counted : (test : List ℕ → Bool) (line : List ℕ) (more lines : List (List ℕ)) (old new whole : ℕ)
    → lines ≡ line ∷ more → old + length (filter test lines) ≡ whole → new ≡ old + cond (test line) 1 0
    → new + length (filter test more) ≡ whole
more_counted test line more lines old new whole is before next =
    let there : length (filter test lines) ≡ cond (test line) 1 0 + length (filter test more) =
    ap (λ (ls : List (List ℕ)). length (filter test ls)) is ∙ counted (test line) line (filter test more) in
    omega (arith, there, before, next)

pub one_at_most : (b : Bool) → cond b 1 0 ≤ 1
one_at_most true = omega arith
one_at_most false = omega arith

pub none_left : (text : List ℕ) → (length text == 0) ≡ true → lines_of text ≡ []
none_left [] none = refl
none_left (b ∷ bs) none =
    let zero : length (b ∷ bs) ≡ 0 = grind (arith, nat_tests, none) in
    absurd (omega (arith, zero))
