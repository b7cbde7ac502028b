-- Tokens of lists, and tokens that a loop has added, with those that are left.
use Rattle.std.proofs.Common.{◌≡◌, ◌∙◌, ℕ, ◌+◌, ◌<◌, List, [], ◌∷◌, ◌++◌, refl, ap, sym, map, append_assoc, append-nil, subst, OnOk, true, false, cond, length, drop, unwrap_or, slice_index_or}
use Rattle.std.specs.Prelude.{flat_map, filter}
use Rattle.std.specs.List.{enumerate_from}
use Rattle.std.specs.Fmt.{decimal}
use Rattle.std.proofs.lemmas.Grind.{flat_map-append}
use Rattle.std.proofs.lemmas.List.{drop_more, map-id}
use Rattle.std.proofs.lemmas.Option.{slice_get-get_or}
use Rattle.json.specs.Json.{Json, string}
use Rattle.json.specs.Token as token
use Rattle.json.specs.Token.{Token}
use Rattle.json.specs.Tree.{json_tokens}
use Rattle.json.specs.Written.{Written}
use Rattle.reh_types.specs.Sets as set
use Rattle.reh_types.specs.Sets.{Set, numbers}
use Rattle.reh_answer.specs.Objects.{Adds, list_json}
use Rattle.reh_answer.proofs.ObjectLaws.{in_place, list-tokens, then}
use Rattle.reh_answer.proofs.TextLaws.{Done}
use Rattle.reh_commands.specs.Texts.{name_of}
use Rattle.reh_run_json.specs.Values.{tokens_of}

-- what a loop has added, where these tokens are left of all
pub record Leaves (left all : List Token) (old new : Written) : Type 0 where
  pub before : new.before ≡ old.before
  pub tokens : new.tokens ++ left ≡ old.tokens ++ all

-- some more are added
pub leaves-more : (part rest left all : List Token) (first mid next : Written) → left ≡ part ++ rest
    → Leaves left all first mid → Adds part mid next → Leaves rest all first next
leaves-more part rest left all first mid next is leaves adds = record {
  before = adds.before ∙ leaves.before;
  tokens =
      ap (λ ts. ts ++ rest) adds.tokens
      ∙ append_assoc mid.tokens part rest
      ∙ ap (λ ts. mid.tokens ++ ts) (sym is)
      ∙ leaves.tokens;
}

-- and none is left
pub leaves-none : (left all : List Token) (first end : Written) → left ≡ [] → Leaves left all first end → Adds all first end
leaves-none left all first end none leaves = record {
  before = leaves.before;
  tokens = sym (append-nil end.tokens) ∙ ap (λ ts. end.tokens ++ ts) (sym none) ∙ leaves.tokens;
}

-- and none is left after the last ones
pub leaves-all : (left all : List Token) (first mid end : Written) → Leaves left all first mid → Adds left mid end → Adds all first end
leaves-all left all first mid end leaves adds = record {
  before = adds.before ∙ leaves.before;
  tokens = adds.tokens ∙ leaves.tokens;
}

-- the tokens of elements that are made some at a time
flattened : {X : Type 0} (h : X → List Json) (xs : List X) → flat_map (λ x. tokens_of (h x)) xs ≡ tokens_of (flat_map h xs)
flattened h [] = refl
flattened h (x ∷ xs) =
    ap (λ ts. tokens_of (h x) ++ ts) (flattened h xs) ∙ sym (flat_map-append json_tokens (h x) (flat_map h xs))

-- the bookies of a set among names, of which the first is the i-th
abbrev pub members_from : Set numbers → ℕ → List (List ℕ) → List Token
members_from bookies i names =
    tokens_of (map string (map (λ place. place.1) (filter (λ place. set.contains bookies place.0) (enumerate_from i names))))

abbrev pub member_at : Set numbers → List (List ℕ) → ℕ → List Token
member_at bookies names i = cond (set.contains bookies i) (token.string (name_of names i) ∷ []) []

member-first : (bookies : Set numbers) (i : ℕ) (name : List ℕ) (names : List (List ℕ))
    → members_from bookies i (name ∷ names)
    ≡ cond (set.contains bookies i) (token.string name ∷ []) [] ++ members_from bookies (i + 1) names
member-first bookies i name names =
    let others = filter (λ place. set.contains bookies place.0) (enumerate_from (i + 1) names) in
    elim (set.contains bookies i) as (λ t. tokens_of (map string (map (λ place. place.1) (cond t ((i, name) ∷ others) others)))
    ≡ cond t (token.string name ∷ []) [] ++ tokens_of (map string (map (λ place. place.1) others))) [ true ↦ refl | false ↦ refl ]

pub member-more : (bookies : Set numbers) (i : ℕ) (names : List (List ℕ)) → i < length names
    → members_from bookies i (drop i names) ≡ member_at bookies names i ++ members_from bookies (i + 1) (drop (i + 1) names)
member-more bookies i names within =
    ap (members_from bookies i) (drop_more names i [] within)
    ∙ member-first bookies i (slice_index_or names i []) (drop (i + 1) names)
    ∙ ap (λ o. cond (set.contains bookies i) (token.string (unwrap_or o (decimal i)) ∷ []) [] ++ members_from bookies (i + 1) (drop (i + 1) names))
    (sym (slice_get-get_or names i [] within))

-- a list between its brackets, of elements that are made one by one
pub mapped-added : {X : Type 0} (h : X → Json) (xs : List X) (r : Done) (first begun listed end : Written)
    → Adds (token.begin_array ∷ []) first begun → Adds (flat_map (λ x. json_tokens (h x)) xs) begun listed
    → OnOk r (Adds (token.end_array ∷ []) listed end) → OnOk r (Adds (json_tokens (list_json (map h xs))) first end)
mapped-added h xs r first begun listed end begins lists ends =
    in_place r first end _ _ (ap (drop 1) (list-tokens [] h xs))
    (then r first begun end _ _ begins (then r begun listed end _ _ lists ends))

-- a list of these elements
pub array-added : (values : List Json) (r : Done) (first begun listed end : Written)
    → Adds (token.begin_array ∷ []) first begun → Adds (tokens_of values) begun listed
    → OnOk r (Adds (token.end_array ∷ []) listed end) → OnOk r (Adds (json_tokens (list_json values)) first end)
array-added values r first begun listed end begins lists ends =
    in_place r first end _ _ (ap (λ vs. json_tokens (list_json vs)) (map-id values))
    (mapped-added (λ value. value) values r first begun listed end begins lists ends)

-- a list of elements that are made some at a time
pub flattened-added : {X : Type 0} (h : X → List Json) (xs : List X) (r : Done) (first begun listed end : Written)
    → Adds (token.begin_array ∷ []) first begun → Adds (flat_map (λ x. tokens_of (h x)) xs) begun listed
    → OnOk r (Adds (token.end_array ∷ []) listed end) → OnOk r (Adds (json_tokens (list_json (flat_map h xs))) first end)
flattened-added h xs r first begun listed end begins lists ends =
    array-added (flat_map h xs) r first begun listed end begins (subst (λ ts. Adds ts begun listed) (flattened h xs) lists) ends
