-- Where the line `%` of an input ends, line by line.
use Rattle.std.proofs.Common.{◌≡◌, ℕ, Bool, true, false, cond, inl, inr, List, [], ◌∷◌, ◌++◌, refl, sym, ap, ◌∙◌, Option}
use Rattle.std.proofs.Common.{None, Some, subst, append-nil, arith, ◌+◌, ◌-◌, ◌<◌, ◌≤◌, length, take, drop, get_or}
use Rattle.std.proofs.Common.{length-append}
use Rattle.std.proofs.Math.Seq.{take-add}
use Rattle.std.proofs.lemmas.List.{take_more, take_at, take-append-drop, length-take-le, length-drop, get_or-drop, drop_more}
use mathlib.Core.List.{append_assoc}
use Rattle.std.specs.Prelude.{◌==◌, ◌&&◌, ◌||◌, ◌⊎◌}
use Rattle.std.proofs.lemmas.Bool.Decides.{nat_tests}
use Rattle.reh_lines.specs.Lines.{Cut, after_end, after_percent, cut_or, with_front, cut_inside, cut_of, ended}
use Rattle.reh_lines.specs.Heads.{is_percent, with_fronts, IsHead, IsPicture, IsUntold}
use Rattle.reh_lines.proofs.EndedLaws.{has_lf}
use Rattle.reh_lines.proofs.Parts.{has_lf-append, ended-loud, ended-quiet}

after_lf : (more : List ℕ) → after_end (10 ∷ more) ≡ Some more
after_lf [] = refl
after_lf (b ∷ bs) = refl

-- an LF with one CR before it
after_cr : (c : ℕ) (more : List ℕ) → (c == 13) ≡ true → after_end (c ∷ 10 ∷ more) ≡ Some more
after_cr c more is =
    let other : (c == 10) ≡ false = grind (arith, nat_tests, is) in
    ap (λ (t : Bool). cond t (Some (10 ∷ more)) (cond (c == 13) (Some more) None)) other
    ∙ ap (λ (t : Bool). cond t (Some more) None) is

both_left : (t u : Bool) → (t && u) ≡ true → t ≡ true
both_left true u is = refl
both_left false u is = is

both_right : (t u : Bool) → (t && u) ≡ true → u ≡ true
both_right true u is = is
both_right false u is = cc

-- after the line `%` stands the script
pub ends_percent : (line more : List ℕ) → is_percent line ≡ true → after_percent (line ++ 10 ∷ more) ≡ Some more
ends_percent [] more is = cc
ends_percent (b ∷ []) more is =
    ap (λ (t : Bool). cond t (after_end (10 ∷ more)) None) is ∙ after_lf more
ends_percent (b ∷ c ∷ []) more is =
    ap (λ (t : Bool). cond t (after_end (c ∷ 10 ∷ more)) None) (both_left (b == 37) (c == 13) is)
    ∙ after_cr c more (both_right (b == 37) (c == 13) is)
ends_percent (b ∷ c ∷ d ∷ rest) more is = cc

-- two bytes that end no line
no_end : (c d : ℕ) (rest : List ℕ) → (c == 10) ≡ false → (c == 13) ≡ false → after_end (c ∷ d ∷ rest) ≡ None
no_end c d rest other plain =
    ap (λ (t : Bool). cond t (Some (d ∷ rest)) (cond (c == 13) (cond (d == 10) (Some rest) None) None)) other
    ∙ ap (λ (t : Bool). cond t (cond (d == 10) (Some rest) None) None) plain

no_end_behind : (c d : ℕ) (rest : List ℕ) → (c == 10) ≡ false → (d == 10) ≡ false → after_end (c ∷ d ∷ rest) ≡ None
no_end_behind c d rest other next =
    ap (λ (t : Bool). cond t (Some (d ∷ rest)) (cond (c == 13) (cond (d == 10) (Some rest) None) None)) other
    ∙ elim (c == 13) as (λ t. cond t (cond (d == 10) (Some rest) None) None ≡ None) [
      | true ↦ ap (λ (t : Bool). cond t (Some rest) None) next
      | false ↦ refl
    ]

none_first : (t u : Bool) → (t || u) ≡ false → t ≡ false
none_first true u none = none
none_first false u none = refl

none_later : (t u : Bool) → (t || u) ≡ false → u ≡ false
none_later true u none = cc
none_later false u none = none

-- three bytes that end no line
no_percent_far : (b c d : ℕ) (rest more : List ℕ) → has_lf (b ∷ c ∷ d ∷ rest) ≡ false
    → after_percent (b ∷ c ∷ d ∷ more) ≡ None
no_percent_far b c d rest more none =
    let later : has_lf (c ∷ d ∷ rest) ≡ false = none_later (b == 10) (has_lf (c ∷ d ∷ rest)) none in
    elim (b == 37) as (λ t. cond t (after_end (c ∷ d ∷ more)) None ≡ None) [
      | true ↦
          no_end_behind c d more (none_first (c == 10) (has_lf (d ∷ rest)) later)
          (none_first (d == 10) (has_lf rest) (none_later (c == 10) (has_lf (d ∷ rest)) later))
      | false ↦ refl
    ]

-- and after another there is none
no_percent : (line more : List ℕ) → is_percent line ≡ false → has_lf line ≡ false
    → after_percent (line ++ 10 ∷ more) ≡ None
no_percent [] more is none = refl
no_percent (b ∷ []) more is none = ap (λ (t : Bool). cond t (after_end (10 ∷ more)) None) is
no_percent (b ∷ c ∷ []) more is none =
    elim (b == 37) as (λ t. (t && (c == 13)) ≡ false → cond t (after_end (c ∷ 10 ∷ more)) None ≡ None) [
      | true ↦ λ plain.
          no_end c 10 more (none_first (c == 10) (has_lf []) (none_later (b == 10) (has_lf (c ∷ [])) none)) plain
      | false ↦ λ plain. refl
    ] is
no_percent (b ∷ c ∷ d ∷ rest) more is none = no_percent_far b c d rest (rest ++ 10 ∷ more) none

-- bytes without LF are passed
passes : (bytes more : List ℕ) → has_lf bytes ≡ false → cut_inside (bytes ++ more) ≡ with_fronts bytes (cut_inside more)
passes [] more none = refl
passes (b ∷ bs) more none =
    let other : (b == 10) ≡ false = none_first (b == 10) (has_lf bs) none in
    ap (λ (t : Bool). cond t (cut_or (after_percent (bs ++ more)) (with_front b (cut_inside (bs ++ more))))
    (with_front b (cut_inside (bs ++ more)))) other
    ∙ ap (with_front b) (passes bs more (none_later (b == 10) (has_lf bs) none))

fronts : (first next : List ℕ) (cut : Cut) → with_fronts first (with_fronts next cut) ≡ with_fronts (first ++ next) cut
fronts first next cut =
    ap (λ (picture : List ℕ). record { picture = picture; script = cut.script })
    (sym (append_assoc first next cut.picture))

-- an LF that the line `%` doesn't follow is passed too, and so is any other byte
passes_first : (byte : ℕ) (rest : List ℕ) → ((byte ≡ 10 → ⊥) ⊎ (after_percent rest ≡ None))
    → cut_inside (byte ∷ rest) ≡ with_front byte (cut_inside rest)
passes_first byte rest (inl other) =
    let no : (byte == 10) ≡ false = grind (arith, nat_tests) in
    ap (λ (t : Bool). cond t (cut_or (after_percent rest) (with_front byte (cut_inside rest)))
    (with_front byte (cut_inside rest))) no
passes_first byte rest (inr none) =
    ap (λ (o : Option (List ℕ)). cond (byte == 10) (cut_or o (with_front byte (cut_inside rest)))
    (with_front byte (cut_inside rest))) none
    ∙ elim (byte == 10) as (λ t. cond t (with_front byte (cut_inside rest)) (with_front byte (cut_inside rest))
    ≡ with_front byte (cut_inside rest)) [
      | true ↦ refl
      | false ↦ refl
    ]

-- and the cut of what is left begins a byte later
pub passes_at : (text : List ℕ) (at : ℕ) → at < length text
    → ((get_or text at 0 ≡ 10 → ⊥) ⊎ (after_percent (drop (at + 1) text) ≡ None))
    → cut_inside text ≡ with_fronts (take at text) (cut_inside (drop at text))
    → cut_inside text ≡ with_fronts (take (at + 1) text) (cut_inside (drop (at + 1) text))
passes_at text at within none before =
    before
    ∙ ap (λ (t : List ℕ). with_fronts (take at text) (cut_inside t)) (drop_more text at 0 within)
    ∙ ap (with_fronts (take at text)) (passes_first (get_or text at 0) (drop (at + 1) text) none)
    ∙ fronts (take at text) (get_or text at 0 ∷ []) (cut_inside (drop (at + 1) text))
    ∙ ap (λ (t : List ℕ). with_fronts t (cut_inside (drop (at + 1) text))) (sym (take_more text at 0 within))

-- bytes with an LF after them end a line
ends_line : (lines line : List ℕ) → ended (lines ++ (line ++ 10 ∷ [])) ≡ lines ++ (line ++ 10 ∷ [])
ends_line lines line =
    ap ended (sym (append_assoc lines line (10 ∷ []))) ∙ ended-loud (lines ++ line) (10 ∷ []) refl
    ∙ append_assoc lines line (10 ∷ [])

-- the picture before the line `%`, without the LF between them
pub at_percent : (lines line : List ℕ) → IsPicture lines → has_lf line ≡ false → is_percent line ≡ true
    → (picture : List ℕ) × ((lines ≡ [] × picture ≡ []) ⊎ (lines ≡ picture ++ 10 ∷ []))
    × IsHead (lines ++ (line ++ 10 ∷ [])) picture
at_percent lines line (inl first) none is = (
  [],
  inl (first, refl),
  (
    ends_line lines line,
    λ script.
        ap (λ (t : List ℕ). cut_of ((t ++ (line ++ 10 ∷ [])) ++ script)) first
        ∙ ap cut_of (append_assoc line (10 ∷ []) script)
        ∙ ap (λ (o : Option (List ℕ)). cut_or o (cut_inside (line ++ 10 ∷ script))) (ends_percent line script is),
  ),
)
at_percent lines line (inr (front, split, passed)) none is = (
  front,
  inr split,
  (
    ends_line lines line,
    λ script.
        ap (λ (t : List ℕ). cut_of ((t ++ (line ++ 10 ∷ [])) ++ script)) split
        ∙ ap cut_of (append_assoc (front ++ 10 ∷ []) (line ++ 10 ∷ []) script ∙ append_assoc front (10 ∷ []) ((line ++ 10 ∷ []) ++ script))
        ∙ passed ((line ++ 10 ∷ []) ++ script)
        ∙ ap (λ (t : List ℕ). with_fronts front (cut_inside (10 ∷ t))) (append_assoc line (10 ∷ []) script)
        ∙ ap (λ (o : Option (List ℕ)). with_fronts front (cut_or o (with_front 10 (cut_inside (line ++ 10 ∷ script)))))
        (ends_percent line script is)
        ∙ ap (λ (picture : List ℕ). record { picture = picture; script = script }) (append-nil front),
  ),
)

-- a line more of the picture
pub past_line : (lines line : List ℕ) → IsPicture lines → has_lf line ≡ false → is_percent line ≡ false
    → IsPicture (lines ++ (line ++ 10 ∷ []))
past_line lines line (inl first) none is = inr (
  line,
  ap (λ (t : List ℕ). t ++ (line ++ 10 ∷ [])) first,
  λ more.
      ap (λ (o : Option (List ℕ)). cut_or o (cut_inside (line ++ 10 ∷ more))) (no_percent line more is none)
      ∙ passes line (10 ∷ more) none,
)
past_line lines line (inr (front, split, passed)) none is = inr (
  front ++ 10 ∷ line,
  ap (λ (t : List ℕ). t ++ (line ++ 10 ∷ [])) split
      ∙ append_assoc front (10 ∷ []) (line ++ 10 ∷ []) ∙ sym (append_assoc front (10 ∷ line) (10 ∷ [])),
  λ more.
      ap cut_of (append_assoc front (10 ∷ line) (10 ∷ more))
      ∙ passed (line ++ 10 ∷ more)
      ∙ ap (λ (o : Option (List ℕ)). with_fronts front (cut_or o (with_front 10 (cut_inside (line ++ 10 ∷ more)))))
      (no_percent line more is none)
      ∙ ap (λ (c : Cut). with_fronts front (with_front 10 c)) (passes line (10 ∷ more) none)
      ∙ fronts front (10 ∷ line) (cut_inside (10 ∷ more)),
)

-- Lines of an input

-- up to the LF that ends a line
up_to : (text : List ℕ) (line end : ℕ) → line ≤ end → end < length text → get_or text end 0 ≡ 10
    → take (end + 1) text ≡ take line text ++ (take (end - line) (drop line text) ++ 10 ∷ [])
up_to text line end order within lf =
    let room : line + (end - line) ≡ end = omega arith in
    take_more text end 0 within
    ∙ (λ i. take (sym room i) text ++ lf i ∷ [])
    ∙ ap (λ (t : List ℕ). t ++ 10 ∷ []) (take-add line (end - line) text)
    ∙ append_assoc (take line text) (take (end - line) (drop line text)) (10 ∷ [])

-- where a picture ends: before the LF that ends its last line
picture_end : (text front : List ℕ) (line : ℕ) → line ≤ length text
    → ((take line text ≡ []) × (front ≡ [])) ⊎ (take line text ≡ front ++ 10 ∷ []) → take (line - 1) text ≡ front
picture_end text front line within (inl (first, none)) =
    let zero : line - 1 ≡ 0 = omega (arith, ap length first, length-take-le line text within) in
    ap (λ (n : ℕ). take n text) zero ∙ sym none
picture_end text front line within (inr split) =
    let count : length front ≡ line - 1 =
    omega (arith, ap length split, length-take-le line text within, length-append front (10 ∷ [])) in
    ap (take (line - 1)) (sym (take-append-drop line text) ∙ ap (λ (t : List ℕ). t ++ drop line text) split
    ∙ append_assoc front (10 ∷ []) (drop line text))
    ∙ take_at front (10 ∷ drop line text) (line - 1) count

pub found_percent : (text : List ℕ) (line end picture : ℕ) → line ≤ end → end < length text
    → get_or text end 0 ≡ 10 → IsPicture (take line text) → has_lf (take (end - line) (drop line text)) ≡ false
    → is_percent (take (end - line) (drop line text)) ≡ true → picture ≡ line - 1
    → IsHead (take (end + 1) text) (take picture text)
found_percent text line end picture order within lf lines none is place =
    let head = at_percent (take line text) (take (end - line) (drop line text)) lines none is in
    let front : take (end + 1) text ≡ take line text ++ (take (end - line) (drop line text) ++ 10 ∷ []) =
    up_to text line end order within lf in (
      ap ended front ∙ head.2.0 ∙ sym front,
      λ script.
          ap (λ (t : List ℕ). cut_of (t ++ script)) front
          ∙ head.2.1 script
          ∙ ap (λ (t : List ℕ). record { picture = t; script = script })
          (sym (picture_end text head.0 line (omega arith) head.1) ∙ ap (λ (n : ℕ). take n text) (sym place)),
    )

pub past_other : (text : List ℕ) (line end : ℕ) → line ≤ end → end < length text → get_or text end 0 ≡ 10
    → IsPicture (take line text) → has_lf (take (end - line) (drop line text)) ≡ false
    → is_percent (take (end - line) (drop line text)) ≡ false → IsPicture (take (end + 1) text)
past_other text line end order within lf lines none is =
    subst IsPicture (sym (up_to text line end order within lf))
    (past_line (take line text) (take (end - line) (drop line text)) lines none is)

-- within a line
pub past_byte : (text : List ℕ) (line end : ℕ) → line ≤ end → end < length text → (get_or text end 0 ≡ 10 → ⊥)
    → has_lf (take (end - line) (drop line text)) ≡ false
    → has_lf (take (end + 1 - line) (drop line text)) ≡ false
past_byte text line end order within other none =
    let room : end + 1 - line ≡ (end - line) + 1 = omega arith in
    let place : line + (end - line) ≡ end = omega arith in
    let inside : end - line < length (drop line text) = omega (arith, length-drop line text) in
    let byte : get_or (drop line text) (end - line) 0 ≡ get_or text end 0 =
    get_or-drop line text (end - line) 0 ∙ ap (λ (n : ℕ). get_or text n 0) place in
    let last : has_lf (get_or text end 0 ∷ []) ≡ false = grind (arith, nat_tests) in
    ap (λ (n : ℕ). has_lf (take n (drop line text))) room
    ∙ ap has_lf (take_more (drop line text) (end - line) 0 inside)
    ∙ ap (λ (b : ℕ). has_lf (take (end - line) (drop line text) ++ b ∷ [])) byte
    ∙ has_lf-append (take (end - line) (drop line text)) (get_or text end 0 ∷ []) last ∙ none

-- Inputs without the line `%`

-- a line that no LF ends may be the line `%`, with nothing after it
quiet_percent : (tail : List ℕ) → has_lf tail ≡ false → (after_percent tail ≡ None) ⊎ (after_percent tail ≡ Some [])
quiet_percent [] none = inl refl
quiet_percent (b ∷ []) none =
    elim (b == 37) as (λ t. (cond t (after_end []) None ≡ None) ⊎ (cond t (after_end []) None ≡ Some [])) [
      | true ↦ inr refl
      | false ↦ inl refl
    ]
quiet_percent (b ∷ c ∷ []) none =
    let other : (c == 10) ≡ false = none_first (c == 10) (has_lf []) (none_later (b == 10) (has_lf (c ∷ [])) none) in
    let end : after_end (c ∷ []) ≡ cond (c == 13) (Some []) None =
    ap (λ (t : Bool). cond t (Some []) (cond (c == 13) (Some []) None)) other in
    elim (b == 37) as (λ t. (cond t (after_end (c ∷ [])) None ≡ None) ⊎ (cond t (after_end (c ∷ [])) None ≡ Some [])) [
      | true ↦
          elim (c == 13) as (λ u. after_end (c ∷ []) ≡ cond u (Some []) None
          → (after_end (c ∷ []) ≡ None) ⊎ (after_end (c ∷ []) ≡ Some [])) [
            | true ↦ λ is. inr is
            | false ↦ λ is. inl is
          ] end
      | false ↦ inl refl
    ]
quiet_percent (b ∷ c ∷ d ∷ rest) none = inl (no_percent_far b c d rest rest none)

-- the cut after bytes without LF, where the line `%` has no script
no_script_at : (tail : List ℕ) (cut : Cut) → has_lf tail ≡ false → cut.script ≡ []
    → (cut_or (after_percent tail) cut).script ≡ []
no_script_at tail cut none is =
    elim (quiet_percent tail none) [
      | inl other ↦ ap (λ (o : Option (List ℕ)). (cut_or o cut).script) other ∙ is
      | inr percent ↦ ap (λ (o : Option (List ℕ)). (cut_or o cut).script) percent
    ]

quiet_inside : (tail : List ℕ) → has_lf tail ≡ false → (cut_inside tail).script ≡ []
quiet_inside tail none =
    ap (λ (t : List ℕ). (cut_inside t).script) (sym (append-nil tail))
    ∙ ap (λ (c : Cut). c.script) (passes tail [] none)

-- an input after the lines of its picture
behind_lines : (input front : List ℕ) (line : ℕ) → take line input ≡ front ++ 10 ∷ []
    → input ≡ front ++ 10 ∷ drop line input
behind_lines input front line split =
    sym (take-append-drop line input) ∙ ap (λ (t : List ℕ). t ++ drop line input) split
    ∙ append_assoc front (10 ∷ []) (drop line input)

first_line_alone : (input : List ℕ) (line : ℕ) → take line input ≡ [] → input ≡ drop line input
first_line_alone input line first =
    sym (take-append-drop line input) ∙ ap (λ (t : List ℕ). t ++ drop line input) first

-- such an input has no script
pub has_none : (input : List ℕ) → IsUntold input → (cut_of input).script ≡ []
has_none input (line, within, inl first, quiet) =
    let none : has_lf input ≡ false = ap has_lf (first_line_alone input line first) ∙ quiet in
    no_script_at input (cut_inside input) none (quiet_inside input none)
has_none input (line, within, inr (front, split, passed), quiet) =
    ap (λ (t : List ℕ). (cut_of t).script) (behind_lines input front line split)
    ∙ ap (λ (c : Cut). c.script) (passed (drop line input))
    ∙ no_script_at (drop line input) (with_front 10 (cut_inside (drop line input))) quiet
    (quiet_inside (drop line input) quiet)

-- and almost all of it is of the picture, whatever follows
far_or_short : (tail more : List ℕ) → has_lf tail ≡ false → (length tail ≤ 2) ⊎ (after_percent (tail ++ more) ≡ None)
far_or_short [] more none = inl (omega arith)
far_or_short (b ∷ []) more none = inl (omega arith)
far_or_short (b ∷ c ∷ []) more none = inl (omega arith)
far_or_short (b ∷ c ∷ d ∷ rest) more none = inr (no_percent_far b c d rest (rest ++ more) none)

long_at : (tail more : List ℕ) (cut : Cut) → has_lf tail ≡ false → length tail ≤ length cut.picture
    → length tail ≤ length (cut_or (after_percent (tail ++ more)) cut).picture + 2
long_at tail more cut none is =
    elim (far_or_short tail more none) [
      | inl short ↦ omega arith
      | inr other ↦
          omega (arith, ap (λ (o : Option (List ℕ)). length (cut_or o cut).picture) other)
    ]

long_inside : (tail more : List ℕ) → has_lf tail ≡ false → length tail ≤ length (cut_inside (tail ++ more)).picture
long_inside tail more none =
    omega (
      arith,
      ap (λ (c : Cut). length c.picture) (passes tail more none),
      length-append tail (cut_inside more).picture,
    )

pub stays_long : (input more : List ℕ) → IsUntold input → length input ≤ length (cut_of (input ++ more)).picture + 3
stays_long input more (line, within, inl first, quiet) =
    let none : has_lf input ≡ false = ap has_lf (first_line_alone input line first) ∙ quiet in
    omega (arith, long_at input more (cut_inside (input ++ more)) none (long_inside input more none))
stays_long input more (line, within, inr (front, split, passed), quiet) =
    let tail : List ℕ = drop line input in
    let next : Cut = with_front 10 (cut_inside (tail ++ more)) in
    let here : cut_of (input ++ more) ≡ with_fronts front (cut_or (after_percent (tail ++ more)) next) =
    ap (λ (t : List ℕ). cut_of (t ++ more)) (behind_lines input front line split)
    ∙ ap cut_of (append_assoc front (10 ∷ tail) more) ∙ passed (tail ++ more) in
    let long : length tail ≤ length next.picture = omega (arith, long_inside tail more quiet) in
    omega (
      arith,
      ap (λ (c : Cut). length c.picture) here,
      long_at tail more next quiet long,
      length-append front (cut_or (after_percent (tail ++ more)) next).picture,
      ap length (behind_lines input front line split),
      length-append front (10 ∷ tail),
    )

-- its lines that end are of the picture
pub lines_untold : (input : List ℕ) → IsUntold input → length (ended input) ≤ length (cut_of (ended input)).picture
lines_untold input (line, within, inl first, quiet) =
    let none : ended input ≡ [] =
    ap ended (sym (take-append-drop line input)) ∙ ended-quiet (take line input) (drop line input) quiet ∙ ap ended first in
    omega (arith, ap length none)
lines_untold input (line, within, inr (front, split, passed), quiet) =
    let all : ended input ≡ front ++ 10 ∷ [] =
    ap ended (sym (take-append-drop line input)) ∙ ended-quiet (take line input) (drop line input) quiet
    ∙ ap ended split ∙ ended-loud front (10 ∷ []) refl in
    let here : cut_of (ended input) ≡ record { picture = front ++ 10 ∷ []; script = [] } = ap cut_of all ∙ passed [] in
    omega (arith, ap length all, ap (λ (c : Cut). length c.picture) here)
