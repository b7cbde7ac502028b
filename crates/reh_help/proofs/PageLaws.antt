-- Pages of several parts.
use Rattle.std.proofs.Common.{◌≡◌, ◌∙◌, ◌+◌, ◌-◌, ◌<◌, ◌≤◌, ◌^◌, ◌++◌, ◌∷◌, [], Bool, true, false, cond, List, ℕ, ap, append_assoc, arith, codes, get_or, length, refl, subst, sym, take}
use borrow.Author.Tests.{ne_eqb}
use Rattle.std.specs.Fmt.{char_count, fill_text, format_spec, is_char_start, padded, styled_text, take_chars}
use Rattle.std.proofs.lemmas.List.{append-nil, take_more}
use Rattle.reh_help.specs.Pages.{BeginsWith, HasParts, HasTitle, IsRefusalLine, title_of}
use Rattle.reh_help.specs.declared.refusals.Topic.{Topic}

-- a part that is added is that of one more
pub one_more : {A : Type 0} (IsPart : A → List ℕ → Type 0) (xs : List A) (x : A) (text part : List ℕ)
    → HasParts IsPart xs text → IsPart x part → HasParts IsPart (xs ++ x ∷ []) (text ++ part)
one_more IsPart [] x text part none is = (part, [], ap (λ t. t ++ part) none ∙ sym (append-nil part), is, refl)
one_more IsPart (y ∷ xs) x text part has is = (
  has.0,
  has.1 ++ part,
  ap (λ t. t ++ part) has.2 ∙ append_assoc has.0 has.1 part,
  has.3,
  one_more IsPart xs x has.1 part has.4 is,
)

-- the part of one more of a list
pub next : {A : Type 0} (IsPart : A → List ℕ → Type 0) (xs : List A) (i : ℕ) (d : A) (text part : List ℕ) → i < length xs
    → HasParts IsPart (take i xs) text → IsPart (get_or xs i d) part → HasParts IsPart (take (i + 1) xs) (text ++ part)
next {A} IsPart xs i d text part within has is_part =
    let P : List A → Type 0 = λ ys. HasParts IsPart ys (text ++ part) in
    subst P (sym (take_more xs i d within)) (one_more IsPart (take i xs) (get_or xs i d) text part has is_part)

-- what is added after what stands above the parts
pub added : (above text part old new : List ℕ) → old ≡ above ++ text → new ≡ old ++ part → new ≡ above ++ (text ++ part)
added above text part old new was is = is ∙ ap (λ t. t ++ part) was ∙ append_assoc above text part

either : {X : Type 0} (t : Bool) (a b x : X) → a ≡ x → b ≡ x → cond t a b ≡ x
either true a b x first second = first
either false a b x first second = second

-- a text has no more characters than bytes
all_chars : (n : ℕ) (text : List ℕ) → length text ≤ n → take_chars n text ≡ text
unfolding take_chars
all_chars n [] short = refl
all_chars n (b ∷ text) short =
    either (is_char_start b) _ _ (b ∷ text)
    (ap (λ t. cond t [] (b ∷ take_chars (n - 1) text)) (ne_eqb n 0 (omega arith))
    ∙ ap (λ l. b ∷ l) (all_chars (n - 1) text (omega arith)))
    (ap (λ l. b ∷ l) (all_chars n text (omega arith)))

-- a text that is filled up begins with it
pub filled : (text : List ℕ) → length text ≤ 2 ^ 64 - 1 → BeginsWith text (styled_text (format_spec 32 1 0 25 (2 ^ 64 - 1)) text)
unfolding padded
filled text short =
    let blanks : List ℕ = fill_text (format_spec 32 1 0 25 (2 ^ 64 - 1)) (25 - char_count (take_chars (2 ^ 64 - 1) text) - 0) in
    record { rest = blanks; says = ap (λ t. t ++ blanks) (all_chars (2 ^ 64 - 1) text short) }

-- a line that begins with a text that is filled up, which begins with the number and name
pub titled : (topic : Topic) (name meaning line filled_name : List ℕ) → HasTitle topic name → BeginsWith name filled_name
    → line ≡ filled_name ++ (meaning ++ codes "\n") → IsRefusalLine topic line
titled topic name meaning line filled_name has fills is =
    let title = title_of topic in
    record {
      rest = has.rest ++ (fills.rest ++ meaning);
      says =
          is
          ∙ ap (λ t. t ++ (meaning ++ codes "\n")) fills.says
          ∙ ap (λ t. (t ++ fills.rest) ++ (meaning ++ codes "\n")) has.says
          ∙ simp append_assoc;
    }
