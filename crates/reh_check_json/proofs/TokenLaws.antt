-- The tokens of values, and tokens that a loop has added, with those that are left.
use Rattle.std.proofs.Common.{◌≡◌, ◌∙◌, ◌+◌, ℕ, List, [], ◌∷◌, ◌++◌, ap, sym, refl, append_assoc}
use Rattle.std.specs.Prelude.{flat_map}
use Rattle.std.proofs.lemmas.Grind.{flat_map-append}
use Rattle.std.proofs.lemmas.List.{append-nil}
use Rattle.json.specs.Json.{Json}
use Rattle.json.specs.Token.{Token, begin_array, end_array, key}
use Rattle.json.specs.Tree.{items_tokens, json_tokens}
use Rattle.json.specs.Written.{Written}
use Rattle.reh_model.specs.Cluster.{Cluster}
use Rattle.reh_commands.specs.Answers.{asked}
use Rattle.reh_answer.specs.Objects.{Adds, items_of, list_json, member_tokens}
use Rattle.reh_check_json.specs.Scripts.{found, found_in}

items-tokens : (values : List Json) → flat_map json_tokens values ++ end_array ∷ [] ≡ items_tokens (items_of values)
items-tokens [] = refl
items-tokens (value ∷ values) =
    append_assoc (json_tokens value) (flat_map json_tokens values) (end_array ∷ [])
    ∙ ap (λ ts. json_tokens value ++ ts) (items-tokens values)

pub values-tokens : (name : List ℕ) (values : List Json)
    → key name ∷ begin_array ∷ (flat_map json_tokens values ++ end_array ∷ []) ≡ member_tokens name (list_json values)
values-tokens name values = ap (λ ts. key name ∷ begin_array ∷ ts) (items-tokens values)

-- what a loop has added, where these tokens are left of all
pub record Leaves (left all : List Token) (old new : Written) : Type 0 where
  pub before : new.before ≡ old.before
  pub tokens : new.tokens ++ left ≡ old.tokens ++ all

-- some more are added
pub leaves-more : (part rest left all : List Token) (first mid next : Written) → left ≡ part ++ rest
    → Leaves left all first mid → Adds part mid next → Leaves rest all first next
leaves-more part rest left all first mid next is leaves adds = record {
  before = adds.before ∙ leaves.before;
  tokens =
      ap (λ ts. ts ++ rest) adds.tokens
      ∙ append_assoc mid.tokens part rest
      ∙ ap (λ ts. mid.tokens ++ ts) (sym is)
      ∙ leaves.tokens;
}

-- those of one line more
pub found-more : (s : Cluster) (n : ℕ) (line : List ℕ) (more lines : List (List ℕ)) → lines ≡ line ∷ more
    → flat_map json_tokens (found s n lines)
    ≡ flat_map json_tokens (found_in s n line (asked s.names line)) ++ flat_map json_tokens (found s (n + 1) more)
found-more s n line more lines is =
    ap (λ (ls : List (List ℕ)). flat_map json_tokens (found s n ls)) is
    ∙ flat_map-append json_tokens (found_in s n line (asked s.names line)) (found s (n + 1) more)

-- and none is left
pub leaves-none : (s : Cluster) (n : ℕ) (lines : List (List ℕ)) (all : List Token) (first end : Written) → lines ≡ []
    → Leaves (flat_map json_tokens (found s n lines)) all first end → Adds all first end
leaves-none s n lines all first end none leaves = record {
  before = leaves.before;
  tokens =
      sym (append-nil end.tokens)
      ∙ ap (λ ls. end.tokens ++ flat_map json_tokens (found s n ls)) (sym none)
      ∙ leaves.tokens;
}
