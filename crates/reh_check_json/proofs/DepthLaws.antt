-- How deep the object is.
use Rattle.std.proofs.Common.{◌≤◌, ◌+◌, ◌++◌, ◌∷◌, [], ℕ, List, Option, Some, None, Result, Ok, Err, arith}
use Rattle.std.specs.Option.{option_map_or}
use Rattle.json.specs.Json.{Json, string}
use Rattle.json.specs.Tree.{depth, items_depth}
use Rattle.reh_model.specs.Cluster.{Cluster}
use Rattle.reh_commands.specs.declared.commands.Command.{Command}
use Rattle.reh_commands.specs.declared.commands.LineFault.{LineFault}
use Rattle.reh_commands.specs.Answers.{asked}
use Rattle.reh_commands.specs.Texts.{line_fault_text}
use Rattle.reh_near.specs.Near.{Told, told_full, told_nearest, nearest_ids}
use Rattle.reh_picture.specs.declared.counts.Counts.{Counts}
use Rattle.reh_answer.specs.Objects.{items_of}
use Rattle.reh_answer.proofs.ObjectLaws.{items-depth}
use Rattle.reh_lint.specs.Ledgers.{ids_of, missing_ledger}
use Rattle.reh_lint.specs.Lints.{near_it}
use Rattle.reh_check_json.specs.Objects.{checked_value}
use Rattle.reh_check_json.specs.Scripts.{fault_with, found, found_in, missing_json, missing_with}

fault-depth : (n : ℕ) (fault : List ℕ) (near : Told) → depth (fault_with n fault near) ≤ 2
fault-depth n fault (told_full name) = omega arith
fault-depth n fault (told_nearest names) = omega (arith, items-depth string 0 (λ name. omega arith) names)

both-depth : (n : ℕ) (xs ys : List Json) → items_depth (items_of xs) ≤ n → items_depth (items_of ys) ≤ n
    → items_depth (items_of (xs ++ ys)) ≤ n
both-depth n [] ys one other = other
both-depth n (x ∷ xs) ys one other = omega (arith, one, both-depth n xs ys (omega (arith, one)) other)

missing-depth : (n ledger : ℕ) (near : List (List ℕ)) → depth (missing_with n ledger near) ≤ 2
missing-depth n ledger near = omega (arith, items-depth string 0 (λ id. omega arith) near)

absent-depth : (s : Cluster) (n : ℕ) (ledger : Option ℕ)
    → items_depth (items_of (option_map_or (λ l. missing_json s n l ∷ []) ledger [])) ≤ 2
absent-depth s n None = omega arith
absent-depth s n (Some ledger) = omega (arith, missing-depth n ledger (nearest_ids (ids_of s) ledger))

line-depth : (s : Cluster) (n : ℕ) (line : List ℕ) (asked_for : Option (Result Command LineFault))
    → items_depth (items_of (found_in s n line asked_for)) ≤ 2
line-depth s n line None = omega arith
line-depth s n line (Some (Ok command)) = absent-depth s n (missing_ledger s command)
line-depth s n line (Some (Err fault)) = omega (arith, fault-depth n (line_fault_text fault) (near_it s.names line fault))

lines-depth : (s : Cluster) (n : ℕ) (lines : List (List ℕ)) → items_depth (items_of (found s n lines)) ≤ 2
lines-depth s n [] = omega arith
lines-depth s n (line ∷ lines) =
    both-depth 2 (found_in s n line (asked s.names line)) (found s (n + 1) lines)
    (line-depth s n line (asked s.names line)) (lines-depth s (n + 1) lines)

pub checked-depth : (counts : Counts) (s : Cluster) (lines : List (List ℕ)) → depth (checked_value counts s lines) ≤ 128
checked-depth counts s lines = omega (arith, lines-depth s 1 lines)
