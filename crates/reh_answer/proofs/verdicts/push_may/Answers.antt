use Rattle.std.proofs.Common.{◌≡◌, ◌∙◌, ◌++◌, ◌⊎◌, ℕ, List, ap, append_assoc, inl, inr, string_bytes, sym}
use Rattle.std.specs.Prelude.{codes}
use Rattle.reh_census.specs.declared.answers.Rule.{Rule}
use Rattle.reh_census.specs.declared.answers.Rule.TheVariants.{Recoverable, Writable, Replaceable}
use Rattle.reh_census.specs.declared.questions.Keep.{Keep}
use Rattle.reh_answer.specs.Texts as texts
use Rattle.reh_answer.specs.declared.nouns.Noun.{Noun}
use Rattle.reh_answer.proofs.TextLaws.{instead}
use Rattle.reh_answer.proofs.verdicts.push_may.Goals as goal

-- what is written of these words
abbrev words : ℕ → Noun → List ℕ → List ℕ → List ℕ
words number noun could whose =
    codes "unknown, "
    ++ (texts.amount number noun
    ++ (codes " could " ++ (could ++ (codes ": nobody told what some of " ++ (whose ++ codes " bookies hold")))))

told : (keep : Keep) (rule : Rule) (number : ℕ) (noun : Noun) (could whose : List ℕ) → noun ≡ texts.noun_of rule
    → could ≡ texts.could keep rule number → whose ≡ texts.whose number
    → words number noun could whose ≡ codes "unknown, " ++ texts.may_words keep rule number
told keep rule number noun could whose noun_is could_is whose_is = λ i. words number (noun_is i) (could_is i) (whose_is i)

broken : (keep : Keep) (rule : Rule) (number : ℕ) → (rule ≡ Recoverable) ⊎ ((rule ≡ Writable) ⊎ (rule ≡ Replaceable))
    → codes "break a rule" ≡ texts.could keep rule number
broken keep rule number (inl is) = ap (λ r. texts.could keep r number) (sym is)
broken keep rule number (inr (inl is)) = ap (λ r. texts.could keep r number) (sym is)
broken keep rule number (inr (inr is)) = ap (λ r. texts.could keep r number) (sym is)

pub returns-in-Readable : goal.returns-in-Readable
returns-in-Readable c =
    instead c.write.result (string_bytes c.write.new.self) (string_bytes c.args.text.now) _ _
    (told c.args.keep c.args.rule c.args.number c.noun_of-noun.result _ c.whose-whose.result.now c.noun_of-noun.ensures
    (ap (λ r. texts.could c.args.keep r c.args.number) (sym c.in-Readable.is)) c.whose-whose.ensures)
    c.write.ensures.bytes

pub returns-in-Kept : goal.returns-in-Kept
returns-in-Kept c =
    let number : ℕ = c.args.number in
    let rest : List ℕ = codes ": nobody told what some of " ++ (c.whose-whose.result.now ++ codes " bookies hold") in
    instead c.write-in-Kept.result (string_bytes c.write-in-Kept.new.self) (string_bytes c.args.text.now) _ _
    (ap (λ (t : List ℕ). codes "unknown, " ++ (texts.amount number c.noun_of-noun.result ++ (codes " could have fewer than " ++ t)))
    (sym (append_assoc (texts.asked c.args.keep number) (codes ", and fewer than now") rest))
    ∙ told c.args.keep c.args.rule number c.noun_of-noun.result _ c.whose-whose.result.now c.noun_of-noun.ensures
    (ap (λ r. texts.could c.args.keep r number) (sym c.in-Kept.is)) c.whose-whose.ensures)
    c.write-in-Kept.ensures.bytes

pub returns-in-Recoverable : goal.returns-in-Recoverable
returns-in-Recoverable c =
    instead c.write-in-Recoverable.result (string_bytes c.write-in-Recoverable.new.self) (string_bytes c.args.text.now) _ _
    (told c.args.keep c.args.rule c.args.number c.noun_of-noun.result _ c.whose-whose.result.now c.noun_of-noun.ensures
    (broken c.args.keep c.args.rule c.args.number c.in-Recoverable.is) c.whose-whose.ensures)
    c.write-in-Recoverable.ensures.bytes
