-- Which lines say that a script is full.
use Rattle.std.proofs.Common.{◌≡◌, ◌∙◌, ◌||◌, ℕ, Bool, true, false, List, [], ◌∷◌, ◌++◌, ap, append_assoc, is_some, map, refl, sym, true≢false}
use Rattle.std.specs.Prelude.{bytes_eq}
use Rattle.std.proofs.lemmas.Bool.{false_from_ne_true}
use Rattle.std.proofs.lemmas.List.Elements.{All-weaker}
use Rattle.std.proofs.lemmas.List.Folds.{list_any-append, list_any_none}
use Rattle.std.proofs.lemmas.List.Sums.{AllPass-from_list_all}
use Rattle.std.proofs.lemmas.Slice.Eq.{bytes_eq-Decides}
use Rattle.reh_commands.specs.Answers.{asked}
use Rattle.reh_plan.specs.Ends.{HasNoRoom, IsFull, full_line, says_full}
use Rattle.reh_plan.specs.Plans.{Draft, comment_of, is_all_asked, with_full}
use Rattle.reh_plan.specs.declared.reasons.Left.{Left}

-- a command doesn't
command_isnt : (names : List (List ℕ)) (line : List ℕ) → is_some (asked names line) ≡ true → bytes_eq full_line line ≡ false
command_isnt names line some =
    false_from_ne_true _
    (λ same. true≢false (sym some ∙ ap (λ (l : List ℕ). is_some (asked names l)) (sym ((bytes_eq-Decides full_line line).0 same))))

-- so no line of a plan without comments does
pub commands_dont : (d : Draft) → is_all_asked d ≡ true → says_full d.lines ≡ false
commands_dont d all =
    list_any_none (bytes_eq full_line) d.lines
    (All-weaker (λ line. is_some (asked d.opening.names line) ≡ true) (λ line. bytes_eq full_line line ≡ false)
    (command_isnt d.opening.names) d.lines (AllPass-from_list_all (λ line. is_some (asked d.opening.names line)) d.lines all))

-- but the comment that it is full
pub told : (d : Draft) (full : Bool) → says_full d.lines ≡ false → says_full (with_full full d).lines ≡ full
told d true plain = list_any-append (bytes_eq full_line) d.lines (full_line ∷ []) ∙ ap (λ (t : Bool). t || true) plain
told d false plain = plain

-- nor do comments on ledgers
silent : (left : List Left) → says_full (map comment_of left) ≡ false
silent [] = refl
silent (l ∷ left) = silent left

or_false : (b : Bool) → (b || false) ≡ b
or_false true = refl
or_false false = refl

-- so these lines say no more than those before them
pub comments_same : (before : List (List ℕ)) (left : List Left) → says_full (before ++ map comment_of left) ≡ says_full before
comments_same before left =
    list_any-append (bytes_eq full_line) before (map comment_of left)
    ∙ ap (λ (t : Bool). says_full before || t) (silent left)
    ∙ or_false (says_full before)

-- where the script has no room, and its next line says so
pub full_after : (d : Draft) (full : Bool) (left : List Left) → full ≡ true → is_all_asked d ≡ true → HasNoRoom d.lines
    → IsFull d.opening.names ((with_full full d).lines ++ map comment_of left)
full_after d true left _ all no_room = record {
  before = d.lines;
  after = map comment_of left;
  is = append_assoc d.lines (full_line ∷ []) (map comment_of left);
  commands = all;
  full = no_room;
  once = silent left;
}
full_after d false left is all no_room = absurd (true≢false (sym is))
