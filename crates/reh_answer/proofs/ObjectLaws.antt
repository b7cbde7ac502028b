-- Tokens that are added one after the other.
use Rattle.std.proofs.Common.{◌≡◌, ◌∙◌, ◌+◌, ◌<◌, ◌≤◌, ◌++◌, ◌∷◌, [], ℕ, List, refl, ap, sym, subst, length, take, get_or, map, append_assoc, Ok, Err, Option, None, Some, OnOk, arith, option_and_then, string_bytes, String, Global}
use Rattle.std.specs.Prelude.{flat_map, codes}
use Rattle.std.proofs.lemmas.Grind.{flat_map-append}
use Rattle.std.proofs.lemmas.List.{append-nil, take_more}
use Rattle.json.specs.Json.{Json, string, document, if_last, max_depth, value}
use Rattle.json.specs.Lex.{tokens}
use Rattle.json.specs.Token.{Token, begin_array, end_array, key}
use Rattle.json.specs.Tree.{depth, items_depth, items_tokens, json_tokens}
use Rattle.json.specs.Written.{Writes, Written}
use Rattle.json.proofs.Printed.Trees.{value-json_tokens}
use Rattle.reh_census.specs.declared.answers.Answer.{Answer}
use Rattle.reh_census.specs.declared.answers.Answer.TheVariants.{Yes, No, Unknown, UnknownDisks, NotJudged}
use Rattle.reh_answer.specs.declared.against.Against.{Against}
use Rattle.reh_answer.specs.declared.facts.Facts.{Facts}
use Rattle.reh_answer.specs.Objects.{Adds, against_json, answer_json, answer_tokens, count_of, items_of, list_json, member_tokens, number_json, rule_json, text_or_null, verdict_word}
use Rattle.reh_answer.specs.Texts.{notes_of}
use Rattle.reh_answer.proofs.TextLaws.{Done}

-- a token
pub one : (first next : Written) (t : Token) → next.tokens ≡ first.tokens ++ t ∷ [] → next.before ≡ first.before
    → Adds (t ∷ []) first next
one first next t tokens before = record { before = before; tokens = tokens }

-- a token, by the last call
pub last : (r : Done) (first next : Written) (t : Token) → Writes r first next t → OnOk r (Adds (t ∷ []) first next)
last (Ok u) first next t writes = record { before = writes.room.0; tokens = writes.ok }
last (Err e) first next t writes = tt

-- what is added before the rest
pub then : (r : Done) (first next end : Written) (added rest : List Token) → Adds added first next
    → OnOk r (Adds rest next end) → OnOk r (Adds (added ++ rest) first end)
then (Ok u) first next end added rest adds more = record {
  before = more.before ∙ adds.before;
  tokens = more.tokens ∙ ap (λ ts. ts ++ rest) adds.tokens ∙ append_assoc first.tokens added rest;
}
then (Err e) first next end added rest adds more = more

-- what is added is the same
pub in_place : (r : Done) (first end : Written) (added other : List Token) → added ≡ other
    → OnOk r (Adds added first end) → OnOk r (Adds other first end)
in_place r first end added other same adds = subst (λ (ts : List Token). OnOk r (Adds ts first end)) same adds

-- one more element is added
pub adds-more : {X : Type 0} (f : X → List Token) (xs : List X) (i : ℕ) (x : X) (first mid next : Written)
    → i < length xs → x ≡ get_or xs i x → Adds (flat_map f (take i xs)) first mid → Adds (f x) mid next
    → Adds (flat_map f (take (i + 1) xs)) first next
adds-more f xs i x first mid next within is adds more = record {
  before = more.before ∙ adds.before;
  tokens =
      more.tokens
      ∙ ap (λ ts. ts ++ f x) adds.tokens
      ∙ append_assoc first.tokens (flat_map f (take i xs)) (f x)
      ∙ ap (λ ts. first.tokens ++ ts) printed;
} where
  printed : flat_map f (take i xs) ++ f x ≡ flat_map f (take (i + 1) xs)
  printed =
      let one : flat_map f (x ∷ []) ≡ f x = append-nil (f x) in
      ap (λ ys. flat_map f (take i xs) ++ ys) (sym one)
      ∙ sym (flat_map-append f (take i xs) (x ∷ []))
      ∙ ap (λ y. flat_map f (take i xs ++ y ∷ [])) is
      ∙ ap (λ zs. flat_map f zs) (sym (take_more xs i x within))

-- the tokens of a list's elements, one after the other
items-tokens : (values : List Json) → flat_map json_tokens values ++ end_array ∷ [] ≡ items_tokens (items_of values)
items-tokens [] = refl
items-tokens (value ∷ values) =
    append_assoc (json_tokens value) (flat_map json_tokens values) (end_array ∷ [])
    ∙ ap (λ ts. json_tokens value ++ ts) (items-tokens values)

mapped : {X Y : Type 0} (f : Y → List Token) (h : X → Y) (xs : List X) → flat_map (λ x. f (h x)) xs ≡ flat_map f (map h xs)
mapped f h [] = refl
mapped f h (x ∷ xs) = ap (λ ts. f (h x) ++ ts) (mapped f h xs)

pub list-tokens : {X : Type 0} (name : List ℕ) (f : X → Json) (xs : List X)
    → key name ∷ begin_array ∷ (flat_map (λ x. json_tokens (f x)) xs ++ end_array ∷ [])
    ≡ member_tokens name (list_json (map f xs))
list-tokens name f xs =
    ap (λ ts. key name ∷ begin_array ∷ ts)
    (ap (λ ts. ts ++ end_array ∷ []) (mapped json_tokens f xs) ∙ items-tokens (map f xs))

-- two lists of texts as one
pub texts-tokens : (name : List ℕ) (xs ys : List (String Global))
    → key name ∷ begin_array ∷ (flat_map (λ t. json_tokens (string (string_bytes t))) xs
    ++ (flat_map (λ t. json_tokens (string (string_bytes t))) ys ++ end_array ∷ []))
    ≡ member_tokens name (list_json (map string (map string_bytes xs ++ map string_bytes ys)))
texts-tokens name xs ys =
    let texts : List (String Global) → List (List ℕ) = λ ts. map string_bytes ts in
    ap (λ ts. key name ∷ begin_array ∷ ts)
    ((λ i. mapped (λ t. json_tokens (string t)) string_bytes xs i
    ++ (mapped (λ t. json_tokens (string t)) string_bytes ys i ++ end_array ∷ []))
    ∙ sym (append_assoc (flat_map (λ t. json_tokens (string t)) (texts xs)) (flat_map (λ t. json_tokens (string t)) (texts ys)) (end_array ∷ []))
    ∙ ap (λ ts. ts ++ end_array ∷ []) (sym (flat_map-append (λ t. json_tokens (string t)) (texts xs) (texts ys)))
    ∙ ap (λ ts. ts ++ end_array ∷ []) (mapped json_tokens string (texts xs ++ texts ys))
    ∙ items-tokens (map string (texts xs ++ texts ys)))

-- the answer's members before the others
pub answer-first : (answer : Answer) (rest : List Token)
    → answer_tokens answer ++ rest
    ≡ member_tokens (codes "verdict") (string (verdict_word answer))
    ++ (member_tokens (codes "rule") (rule_json answer)
    ++ (member_tokens (codes "count") (number_json (count_of answer)) ++ rest))
answer-first answer rest =
    ap (λ ts. member_tokens (codes "verdict") (string (verdict_word answer)) ++ (key (codes "rule") ∷ ts))
    (append_assoc (json_tokens (rule_json answer)) (member_tokens (codes "count") (number_json (count_of answer))) rest)

-- How deep the object is

pub items-depth : {X : Type 0} (f : X → Json) (n : ℕ) → ((x : X) → depth (f x) ≤ n) → (xs : List X) → items_depth (items_of (map f xs)) ≤ n
items-depth f n each [] = omega arith
items-depth f n each (x ∷ xs) = omega (arith, each x, items-depth f n each xs)

rule-depth : (answer : Answer) → depth (rule_json answer) ≡ 0
rule-depth Yes = refl
rule-depth (No rule count) = refl
rule-depth (Unknown rule count) = refl
rule-depth (UnknownDisks count) = refl
rule-depth (NotJudged count) = refl

pub text-depth : (text : Option (List ℕ)) → depth (text_or_null text) ≡ 0
text-depth None = refl
text-depth (Some text) = refl

answer-depth : (facts : Facts) (names : List (List ℕ)) (against : List Against) (taken : Option (List ℕ)) (further : List (List ℕ))
    → depth (answer_json facts names against taken further) ≤ 128
answer-depth facts names against taken further =
    omega (
      arith,
      rule-depth facts.answer,
      text-depth taken,
      items-depth number_json 0 (λ n. omega arith) facts.copies_now,
      items-depth number_json 0 (λ n. omega arith) facts.copies_without,
      items-depth against_json 1 (λ a. omega arith) against,
      items-depth string 0 (λ t. omega arith) (notes_of facts names taken ++ further),
    )

-- what a reader of JSON reads of a value's tokens
pub reads : (value_of : Json) (line : List ℕ) → depth value_of ≤ 128 → tokens line ≡ json_tokens value_of
    → document line ≡ Some value_of
reads value_of line shallow is =
    ap (λ ts. option_and_then (λ (p : Json × List Token). if_last p.0 p.1) (value max_depth ts))
    (is ∙ sym (append-nil (json_tokens value_of)))
    ∙ ap (λ (o : Option (Json × List Token)). option_and_then (λ p. if_last p.0 p.1) o)
    (value-json_tokens value_of max_depth [] shallow)

-- and of the answer's
pub line-reads : (facts : Facts) (names : List (List ℕ)) (against : List Against) (taken : Option (List ℕ)) (further : List (List ℕ)) (line : List ℕ)
    → tokens line ≡ json_tokens (answer_json facts names against taken further)
    → document line ≡ Some (answer_json facts names against taken further)
line-reads facts names against taken further line is =
    reads (answer_json facts names against taken further) line (answer-depth facts names against taken further) is
