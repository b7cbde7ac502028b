-- What is read of a text is the census whose text it is.
use Rattle.std.proofs.Common.{◌≡◌, ℕ, ◌+◌, Bool, true, false, cond, not, List, [], ◌∷◌, ◌++◌, length, drop, map, Option, Some, None, Result, Ok, Err, refl, sym, ap, subst, ◌∙◌, arith, length-append}
use Rattle.std.specs.Prelude.{codes, IfOk, IfSome, is_some, unwrap_or, ◌&&◌, ◌==◌}
use Rattle.std.specs.Fmt.{decimal}
use Rattle.std.specs.List.{join_with_byte, IsDistinct}
use Rattle.std.specs.Str.{bytes_eq}
use Rattle.std.proofs.lemmas.Bool.{false≢true}
use Rattle.std.proofs.lemmas.Bool.Decides.{nat_tests}
use Rattle.std.proofs.lemmas.List.{append-nil, nil_from_length}
use Rattle.std.proofs.lemmas.List.Splits.{join_with_byte-slice_split}
use Rattle.std.proofs.lemmas.Slice.Eq.{bytes_eq-Decides}
use mathlib.Core.List.{append_assoc}
use Rattle.reh_census_file.specs.declared.faults.CensusFault.{CensusFault}
use Rattle.reh_census_file.specs.declared.faults.CensusFault.TheVariants as fault
use Rattle.reh_census_file.specs.declared.faults.Expected.{Expected}
use Rattle.reh_census_file.specs.declared.faults.Expected.TheVariants as expected
use Rattle.reh_census_file.specs.declared.faults.Keyword.TheVariants as word
use Rattle.reh_census_file.specs.Canonical.{IsCanonical, IsJudged, is_name, is_time}
use Rattle.reh_census_file.specs.Drafts.{Draft, no_lines, part_of, step}
use Rattle.reh_census_file.specs.Lines.{behind_spaces, line_of, lines_of}
use Rattle.reh_census_file.specs.Reading.{◌>>=◌, words_of, word_at, choice_at, time_at, version_at, lines_at, no_more}
use Rattle.reh_census_file.specs.Texts.{text_of, body_words, head_words, end_words, judged_words, bookie_lines, entries_words, tail_words, ensemble_words, strict_word, taken_word}
use Rattle.reh_census.specs.declared.censuses.Judged.{Judged}
use Rattle.reh_census_file.specs.Values.{NamedCensus}
use Rattle.reh_census_file.specs.Whole.{placed, parts_of, first_of, version_line, strict_line, taken_line, line_by, end_line, text_end, last_at, body_at, census_in, census_at, nothing_judged, read, GivesAll}
use Rattle.reh_census_file.proofs.DraftTakes.{Line, step_tells}
use Rattle.reh_census_file.proofs.Steps.{IsFine, draft_words, judged_lines}
use Rattle.reh_census_file.proofs.TextLaws.{lines_of-append}
use Rattle.reh_census_file.proofs.TokenLaws.{bind_ok, passed, ok_is, word_takes, choice_takes, no_more_takes}
use Rattle.reh_census_file.proofs.WordLaws.{words_of-first}

-- Lines and text

-- words parted by single spaces are their line
joined_words : (word : List ℕ) (words : Line) → join_with_byte 32 (word ∷ words) ≡ word ++ behind_spaces words
joined_words word [] = sym (append-nil word)
joined_words word (next ∷ words) = ap (λ ws. word ++ (32 ∷ ws)) (joined_words next words)

whole_words : (line : List ℕ) → words_of line ≡ first_of (words_of line) ∷ drop 1 (words_of line)
whole_words line = go (words_of line) (words_of-first line)
  where
    go : (words : Line) {w : List ℕ} {ws : Line} → words ≡ w ∷ ws → words ≡ first_of words ∷ drop 1 words
    go [] e = absurd cc
    go (word ∷ words) e = refl

pub line_of-words : (line : List ℕ) → line_of (words_of line) ≡ line ++ codes "\n"
line_of-words line =
    let first = first_of (words_of line) in
    let others = drop 1 (words_of line) in
    ap line_of (whole_words line) ∙ sym (append_assoc first (behind_spaces others) (codes "\n"))
    ∙ ap (λ t. t ++ codes "\n") (sym (joined_words first others) ∙ ap (join_with_byte 32) (sym (whole_words line)) ∙ join_with_byte-slice_split 32 line)

-- the text of parts
abbrev text_in : Line → List ℕ
text_in parts = join_with_byte 10 parts

text_of_parts : (text : List ℕ) → text_in (parts_of text) ≡ text
text_of_parts text = join_with_byte-slice_split 10 text

text_in-line : (part : List ℕ) (parts : Line) → (length parts == 0) ≡ false → text_in (part ∷ parts) ≡ line_of (words_of part) ++ text_in parts
text_in-line part [] some = absurd (false≢true (sym some))
text_in-line part (next ∷ parts) some =
    sym (append_assoc part (codes "\n") (text_in (next ∷ parts))) ∙ ap (λ t. t ++ text_in (next ∷ parts)) (sym (line_of-words part))

-- Faults in their places

placed_ok : {A : Type 0} (line : ℕ) (r : Result A Expected) (x : A) → placed line r ≡ Ok x → r ≡ Ok x
placed_ok line (Ok y) x e = ap (λ z. Ok z) (made y x e)
  where
    made : {A : Type 0} (y x : A) → placed line (Ok y) ≡ Ok x → y ≡ x
    made y x e = cc
placed_ok line (Err what) x e = absurd cc

-- a test that should have failed
stayed : {A : Type 0} (b : Bool) (what : CensusFault) (x : Result A CensusFault) (y : A) → cond b (Err what) x ≡ Ok y → (b ≡ false) × (x ≡ Ok y)
stayed true what x y e = absurd cc
stayed false what x y e = (refl, e)

abbrev ok : {A : Type 0} → A → Result A CensusFault
ok x = Ok x

all_ok : {A : Type 0} (x y : A) → ok x ≡ ok y → x ≡ y
all_ok x y e = cc

-- what a line at the head is
pub record IsLine (parts : Line) (words : Line) (rest : Line) : Type 0 where
  pub text : text_in parts ≡ line_of words ++ text_in rest

line_takes : {A : Type 0} (read : Line → Result A Expected) (line : ℕ) (parts : Line) (x : A) (rest : Line) → line_by read line parts ≡ Ok (x, rest) → (words : Line) × (read words ≡ Ok x) × IsLine parts words rest
unfolding line_by
line_takes read line [] x rest e = absurd cc
line_takes {A = A} read line (part ∷ parts) x rest e =
    let a = stayed (length parts == 0) (fault.Line line expected.MoreLines) (placed line (read (words_of part)) >>= λ y. Ok (y, parts)) (x, rest) e in
    let b = bind_ok (placed line (read (words_of part))) (λ y. Ok (y, parts)) (x, rest) a.1 in
    let made : A × Line = (b.0, parts) in
    let said = placed_ok line (read (words_of part)) b.0 b.1 in
    subst (λ (y : A × Line). (words : Line) × (read words ≡ Ok y.0) × IsLine (part ∷ parts) words y.1) (all_ok made (x, rest) b.2) (words_of part, said, record { text = text_in-line part parts a.0 })

-- The head

abbrev done : Result (Unit {0}) Expected
done = Ok tt

version_takes : (words : Line) (x : Unit {0}) → version_line words ≡ Ok x → words ≡ codes "census" ∷ codes "1" ∷ []
unfolding version_line version_at
version_takes words x e =
    let a = bind_ok (word_at word.Census words) version_at x e in
    word_takes word.Census words a.0 a.1 ∙ ap (λ ws. codes "census" ∷ ws) (go a.0 a.2)
  where
    go : (words : Line) → version_at words ≡ Ok x → words ≡ codes "1" ∷ []
    go [] e = absurd cc
    go (word ∷ words) e =
        let p = passed (bytes_eq word (codes "1")) expected.Version (no_more words) x e in
        λ i. (bytes_eq-Decides word (codes "1")).0 p.0 i ∷ no_more_takes words p.1 i

strict_takes : (words : Line) (is_strict : Bool) → strict_line words ≡ Ok is_strict → words ≡ codes "strict" ∷ strict_word is_strict ∷ []
unfolding strict_line
strict_takes words is_strict e =
    let a = bind_ok (word_at word.Strict words) (λ behind. choice_at (codes "yes") (codes "no") expected.YesOrNo behind >>= λ strict. no_more strict.1 >>= λ done. Ok strict.0) is_strict e in
    let b = bind_ok (choice_at (codes "yes") (codes "no") expected.YesOrNo a.0) (λ strict. no_more strict.1 >>= λ done. Ok strict.0) is_strict a.2 in
    let c = bind_ok (no_more b.0.1) (λ done. Ok b.0.0) is_strict b.2 in
    word_takes word.Strict words a.0 a.1 ∙ ap (λ ws. codes "strict" ∷ ws) (choice_takes (codes "yes") (codes "no") expected.YesOrNo a.0 b.0.1 b.0.0 b.1
    ∙ ap (λ ws. strict_word b.0.0 ∷ ws) (no_more_takes b.0.1 c.1) ∙ ap (λ s. strict_word s ∷ []) (ok_is b.0.0 is_strict c.2))

abbrev IsTaken : Option (List ℕ) → Line → Line → Type 0
IsTaken taken words rest = (words ≡ taken_word taken ∷ rest) × IfSome taken (λ time. is_time time ≡ true)

time_takes : (words rest : Line) (taken : Option (List ℕ)) → time_at words ≡ Ok (taken, rest) → IsTaken taken words rest
unfolding time_at
time_takes [] rest taken e = absurd cc
time_takes (word ∷ words) rest taken e = go (bytes_eq word (codes "-")) refl e
  where
    go : (b : Bool) → bytes_eq word (codes "-") ≡ b → cond {A = Result (Option (List ℕ) × Line) Expected} b (Ok (None, words)) (cond (is_name word) (Ok (Some word, words)) (Err expected.Time)) ≡ Ok (taken, rest) → IsTaken taken (word ∷ words) rest
    go true is e = subst (λ (x : Option (List ℕ) × Line). IsTaken x.0 (word ∷ words) x.1) (ok_is (None, words) (taken, rest) e) (ap (λ w. w ∷ words) ((bytes_eq-Decides word (codes "-")).0 is), tt)
    go false is e =
        let p = passed (is_name word) expected.Time (Ok (Some word, words)) (taken, rest) e in
        subst (λ (x : Option (List ℕ) × Line). IsTaken x.0 (word ∷ words) x.1) (ok_is (Some word, words) (taken, rest) p.1) (refl, ap (λ b. b && not (bytes_eq word (codes "-"))) p.0 ∙ ap not is)

taken_line_takes : (words : Line) (taken : Option (List ℕ)) → taken_line words ≡ Ok taken → (words ≡ codes "taken" ∷ taken_word taken ∷ []) × IfSome taken (λ time. is_time time ≡ true)
unfolding taken_line
taken_line_takes words taken e =
    let a = bind_ok (word_at word.Taken words) (λ behind. time_at behind >>= λ taken. no_more taken.1 >>= λ done. Ok taken.0) taken e in
    let b = bind_ok (time_at a.0) (λ taken. no_more taken.1 >>= λ done. Ok taken.0) taken a.2 in
    let c = bind_ok (no_more b.0.1) (λ done. Ok b.0.0) taken b.2 in
    let t = time_takes a.0 b.0.1 b.0.0 b.1 in
    subst (λ (x : Option (List ℕ)). (words ≡ codes "taken" ∷ taken_word x ∷ []) × IfSome x (λ time. is_time time ≡ true)) (ok_is b.0.0 taken c.2)
    (word_takes word.Taken words a.0 a.1 ∙ ap (λ ws. codes "taken" ∷ ws) (t.0 ∙ ap (λ ws. taken_word b.0.0 ∷ ws) (no_more_takes b.0.1 c.1)), t.1)

-- The lines after the head

-- what a draft is once its last line came
pub record IsWhole (d : Draft) (lines : ℕ) (parts : Line) (last : Draft) : Type 0 where
  pub fine : IsFine last
  pub judged : is_some last.judged ≡ true
  pub text : lines_of (draft_words d) ++ text_in parts ≡ lines_of (draft_words last) ++ line_of (end_words (3 + length (draft_words last)))

end_takes : (lines : ℕ) (d : Draft) (words : Line) (last : Draft) → end_line lines d words ≡ Ok last → (d ≡ last) × (is_some d.judged ≡ true) × (words ≡ decimal lines ∷ [])
unfolding end_line lines_at
end_takes lines d words last e =
    let a = passed (is_some d.judged) (expected.Line (part_of d)) (lines_at lines words >>= λ done. Ok d) last e in
    let b = bind_ok (lines_at lines words) (λ done. Ok d) last a.1 in
    (ok_is d last b.2, a.0, go words b.0 b.1)
  where
    go : (words : Line) (x : Unit {0}) → lines_at lines words ≡ Ok x → words ≡ decimal lines ∷ []
    go [] x e = absurd cc
    go (word ∷ words) x e =
        let p = passed (bytes_eq (decimal lines) word) (expected.End lines) (no_more words) x e in
        λ i. sym ((bytes_eq-Decides (decimal lines) word).0 p.0) i ∷ no_more_takes words p.1 i

text_end_takes : (line : ℕ) (d last : Draft) (parts : Line) → text_end line d parts ≡ Ok last → (d ≡ last) × (parts ≡ [] ∷ [])
text_end_takes line d last [] e = absurd cc
text_end_takes line d last (part ∷ parts) e = go ((length part == 0) && (length parts == 0)) refl e
  where
    both : (m n : ℕ) → ((m == 0) && (n == 0)) ≡ true → (m ≡ 0) × (n ≡ 0)
    both m n e = (grind (arith, nat_tests), grind (arith, nat_tests))

    go : (b : Bool) → ((length part == 0) && (length parts == 0)) ≡ b → cond b (Ok d) (Err (fault.Line line expected.NoMoreLines)) ≡ Ok last → (d ≡ last) × (part ∷ parts ≡ [] ∷ [])
    go true is e =
        let none : (length part ≡ 0) × (length parts ≡ 0) = both (length part) (length parts) is in
        (all_ok d last e, λ i. nil_from_length part none.0 i ∷ nil_from_length parts none.1 i)
    go false is e = absurd cc

pub body_takes : (parts : Line) (lines : ℕ) (d last : Draft) → IsFine d → lines ≡ 3 + length (draft_words d) → body_at lines d parts ≡ Ok last → IsWhole d lines parts last
unfolding body_at
body_takes [] lines d last fine count e = absurd cc
body_takes (part ∷ parts) lines d last fine count e =
    let first = first_of (words_of part) in
    let words = drop 1 (words_of part) in
    let onward = placed (lines + 1) (step d first words) >>= λ more. body_at (lines + 1) more parts in
    let a = stayed (length parts == 0) (fault.Line (lines + 1) expected.MoreLines) (cond (bytes_eq first (codes "end")) (last_at lines d words parts) onward) last e in
    go (λ more. body_takes parts (lines + 1) more last) (bytes_eq first (codes "end")) refl a.0 a.1
  where
    go : ((more : Draft) → IsFine more → lines + 1 ≡ 3 + length (draft_words more) → body_at (lines + 1) more parts ≡ Ok last → IsWhole more (lines + 1) parts last) → (b : Bool) → bytes_eq (first_of (words_of part)) (codes "end") ≡ b → (length parts == 0) ≡ false
        → cond b (last_at lines d (drop 1 (words_of part)) parts) (placed (lines + 1) (step d (first_of (words_of part)) (drop 1 (words_of part))) >>= λ more. body_at (lines + 1) more parts) ≡ Ok last → IsWhole d lines (part ∷ parts) last
    go others true is some e =
        let words = drop 1 (words_of part) in
        let b = bind_ok (placed (lines + 1) (end_line lines d words)) (λ whole. text_end (lines + 2) whole parts) last e in
        let h = end_takes lines d words b.0 (placed_ok (lines + 1) (end_line lines d words) b.0 b.1) in
        let t = text_end_takes (lines + 2) b.0 last parts b.2 in
        let same : d ≡ last = h.0 ∙ t.0 in
        let line : words_of part ≡ end_words lines = whole_words part ∙ (λ i. (bytes_eq-Decides (first_of (words_of part)) (codes "end")).0 is i ∷ h.2 i) in
        let text : text_in (part ∷ parts) ≡ line_of (end_words lines) = text_in-line part parts some ∙ ap (λ ps. line_of (words_of part) ++ text_in ps) t.1 ∙ append-nil (line_of (words_of part)) ∙ ap line_of line in
        subst (λ (x : Draft). IsWhole d lines (part ∷ parts) x) same (record { fine = fine; judged = h.1; text = ap (λ t. lines_of (draft_words d) ++ t) text ∙ ap (λ n. lines_of (draft_words d) ++ line_of (end_words n)) count })
    go others false is some e =
        let first = first_of (words_of part) in
        let words = drop 1 (words_of part) in
        let b = bind_ok (placed (lines + 1) (step d first words)) (λ more. body_at (lines + 1) more parts) last e in
        let t = step_tells d first words b.0 fine (placed_ok (lines + 1) (step d first words) b.0 b.1) in
        let longer : length (draft_words b.0) ≡ length (draft_words d) + 1 = ap length t.words ∙ length-append (draft_words d) ((first ∷ words) ∷ []) in
        let rest = others b.0 t.fine (omega (arith, longer, count)) b.2 in
        let so_far : lines_of (draft_words b.0) ≡ lines_of (draft_words d) ++ line_of (words_of part) =
        ap lines_of t.words ∙ lines_of-append (draft_words d) ((first ∷ words) ∷ []) ∙ ap (λ t. lines_of (draft_words d) ++ t) (append-nil (line_of (first ∷ words)) ∙ ap line_of (sym (whole_words part))) in
        record {
          fine = rest.fine;
          judged = rest.judged;
          text = ap (λ t. lines_of (draft_words d) ++ t) (text_in-line part parts some) ∙ sym (append_assoc (lines_of (draft_words d)) (line_of (words_of part)) (text_in parts))
              ∙ ap (λ t. t ++ text_in parts) (sym so_far) ∙ rest.text;
        }

-- The whole text

apart : IsDistinct bytes_eq []
unfolding IsDistinct
apart = tt

nothing_fine : IsFine no_lines
nothing_fine = record {
  bookies = record { few_names = record { few = omega arith; different = apart }; named = tt; order = λ k d within. absurd (omega arith); each = refl; few_racks = record { few = omega arith; different = apart }; racked = tt; numbered = refl };
  judged = tt;
  entries = record { some = tt; quorums = tt; copies = tt; order = λ k d within. absurd (omega arith); within = omega arith };
  tails = record { some = tt; sizes = tt; whole = tt; named = tt; order = λ k d within. absurd (omega arith); within = omega arith };
  ensembles = record { some = tt; members = tt; named = tt; order = λ k d within. absurd (omega arith); within = omega arith };
  early = λ none. record { entries = refl; tails = refl; ensembles = refl };
}

-- a census that was read
pub record IsRead (bytes : List ℕ) (c : NamedCensus) : Type 0 where
  pub text : bytes ≡ text_of c
  pub canonical : IsCanonical c

pub census_takes : (parts : Line) (c : NamedCensus) → census_at parts ≡ Ok c → IsRead (text_in parts) c
unfolding census_at
census_takes parts c e =
    let a = bind_ok (line_by version_line 1 parts) (λ version. line_by strict_line 2 version.1 >>= λ strict. line_by taken_line 3 strict.1 >>= λ taken. body_at 3 no_lines taken.1 >>= λ draft. Ok (census_in strict.0 taken.0 draft)) c e in
    let b = bind_ok (line_by strict_line 2 a.0.1) (λ strict. line_by taken_line 3 strict.1 >>= λ taken. body_at 3 no_lines taken.1 >>= λ draft. Ok (census_in strict.0 taken.0 draft)) c a.2 in
    let f = bind_ok (line_by taken_line 3 b.0.1) (λ taken. body_at 3 no_lines taken.1 >>= λ draft. Ok (census_in b.0.0 taken.0 draft)) c b.2 in
    let g = bind_ok (body_at 3 no_lines f.0.1) (λ draft. Ok (census_in b.0.0 f.0.0 draft)) c f.2 in
    let v = line_takes version_line 1 parts a.0.0 a.0.1 a.1 in
    let s = line_takes strict_line 2 a.0.1 b.0.0 b.0.1 b.1 in
    let t = line_takes taken_line 3 b.0.1 f.0.0 f.0.1 f.1 in
    let whole = body_takes f.0.1 3 no_lines g.0 nothing_fine refl g.1 in
    let taken = taken_line_takes t.0 f.0.0 t.1 in
    subst (λ (x : NamedCensus). IsRead (text_in parts) x) (all_ok (census_in b.0.0 f.0.0 g.0) c g.2)
    (made b.0.0 f.0.0 g.0 parts v.0 s.0 t.0 a.0.1 b.0.1 f.0.1 v.2 s.2 t.2 (version_takes v.0 a.0.0 v.1) (strict_takes s.0 b.0.0 s.1) taken.0 taken.1 whole)
  where
    judged_is : (o : Option Judged) → is_some o ≡ true → IfSome o IsJudged → (judged_lines o ≡ judged_words (unwrap_or o nothing_judged) ∷ []) × IsJudged (unwrap_or o nothing_judged)
    judged_is None some fits = absurd cc
    judged_is (Some j) some fits = (refl, fits)

    grouped : (a b c d e : List ℕ) → a ++ (b ++ (c ++ (d ++ e))) ≡ ((a ++ (b ++ (c ++ []))) ++ d) ++ e
    grouped a b c d e = simp (append_assoc, append-nil)

    made : (is_strict : Bool) (taken : Option (List ℕ)) (last : Draft) (parts version strict time rest1 rest2 rest3 : Line)
        → IsLine parts version rest1 → IsLine rest1 strict rest2 → IsLine rest2 time rest3
        → version ≡ codes "census" ∷ codes "1" ∷ [] → strict ≡ codes "strict" ∷ strict_word is_strict ∷ [] → time ≡ codes "taken" ∷ taken_word taken ∷ [] → IfSome taken (λ time. is_time time ≡ true)
        → IsWhole no_lines 3 rest3 last → IsRead (text_in parts) (census_in is_strict taken last)
    made is_strict taken last parts version strict time rest1 rest2 rest3 v s t is-v is-s is-t fits whole =
        let c = census_in is_strict taken last in
        let head = head_words c in
        let dw = draft_words last in
        let j = judged_is last.judged whole.judged whole.fine.judged in
        let body : body_words c ≡ head ++ dw = ap (λ js. head ++ (bookie_lines c ++ (js ++ (map (entries_words c.names) c.census.entries ++ (map (tail_words c.names) c.census.tails ++ map (ensemble_words c.names) c.census.ensembles))))) (sym j.0) in
        let n : length (body_words c) ≡ 3 + length dw = ap length body ∙ omega (arith, length-append head dw) in
        record {
          text = v.text ∙ ap (λ w. line_of w ++ text_in rest1) is-v
              ∙ ap (λ t. line_of (codes "census" ∷ codes "1" ∷ []) ++ t) (s.text ∙ ap (λ w. line_of w ++ text_in rest2) is-s
              ∙ ap (λ t. line_of (codes "strict" ∷ strict_word is_strict ∷ []) ++ t) (t.text ∙ ap (λ w. line_of w ++ text_in rest3) is-t
              ∙ ap (λ t. line_of (codes "taken" ∷ taken_word taken ∷ []) ++ t) whole.text))
              ∙ grouped (line_of (codes "census" ∷ codes "1" ∷ [])) (line_of (codes "strict" ∷ strict_word is_strict ∷ [])) (line_of (codes "taken" ∷ taken_word taken ∷ [])) (lines_of dw) (line_of (end_words (3 + length dw)))
              ∙ ap (λ t. t ++ line_of (end_words (3 + length dw))) (sym (lines_of-append head dw) ∙ ap lines_of (sym body))
              ∙ ap (λ k. lines_of (body_words c) ++ line_of (end_words k)) (sym n);
          canonical = record { bookies = whole.fine.bookies; judged = j.1; entries = whole.fine.entries; tails = whole.fine.tails; ensembles = whole.fine.ensembles; taken = fits };
        }

-- what is read of a text is a canonical census, and the text is its
pub read_takes : (text : List ℕ) (c : NamedCensus) → read text ≡ Ok c → IsRead text c
read_takes text c e = subst (λ (t : List ℕ). IsRead t c) (text_of_parts text) (census_takes (parts_of text) c e)

pub found_text : (text : List ℕ) (r : Result NamedCensus CensusFault) → GivesAll (λ (c : NamedCensus). c) r (read text) → IfOk r (λ c. text_of c ≡ text)
found_text text (Ok c) gives = sym (read_takes text c gives).text
found_text text (Err f) gives = tt

pub found_canonical : (text : List ℕ) (r : Result NamedCensus CensusFault) → GivesAll (λ (c : NamedCensus). c) r (read text) → IfOk r IsCanonical
found_canonical text (Ok c) gives = (read_takes text c gives).canonical
found_canonical text (Err f) gives = tt
