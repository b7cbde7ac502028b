-- Copies and rules.
use Rattle.std.proofs.Common.{◌≡◌, ◌∙◌, ◌+◌, ◌≤◌, ◌&&◌, ◌||◌, not, cond, ℕ, Bool, true, false, List, [], ◌∷◌, ◌++◌}
use Rattle.std.proofs.Common.{refl, ap, sym, length, nat_lt, nat_eq, arith, length-append}
use Rattle.std.specs.Prelude.{count_by, min, ◌==◌}
use Rattle.std.specs.List.{filter, list_all, list_any}
use Rattle.std.proofs.lemmas.Bool.Decides.{nat_tests}
use Rattle.std.proofs.lemmas.List.Sums.{count_by-le-length, length-filter}
use Rattle.reh_census.specs.declared.classes.Class.{Class}
use Rattle.reh_census.specs.declared.questions.Keep.{Keep}
use Rattle.reh_census.specs.declared.questions.Keep.TheVariants.{AckQuorum, Copies, AckLessOne}
use Rattle.reh_census.specs.Copies.{best, completion, is_in, left}
use Rattle.reh_census.specs.Rules.{breaks_kept, breaks_readable, copies_to_keep}
use Rattle.reh_census.proofs.CountLaws.{count-append, count-cons, count-filter, count-le, count-split, count-never}

pub length-completion : (class : Class) (holds : ℕ → Bool)
    → length (completion class holds) ≡ length class.known + count_by holds class.untold
length-completion class holds =
    length-append class.known (filter holds class.untold)
    ∙ ap (λ n. length class.known + n) (length-filter holds class.untold)

pub left-completion : (class : Class) (stopped holds : ℕ → Bool)
    → left stopped (completion class holds) ≡ left stopped class.known + count_by (λ b. holds b && not (stopped b)) class.untold
left-completion class stopped holds =
    count-append (λ b. not (stopped b)) class.known (filter holds class.untold)
    ∙ ap (λ n. left stopped class.known + n) (count-filter (λ b. not (stopped b)) holds class.untold)

-- of the copies of the worst completion those are left that are known
pub left-worst : (class : Class) (stopped : ℕ → Bool) → left stopped (completion class stopped) ≡ left stopped class.known
left-worst class stopped =
    left-completion class stopped stopped
    ∙ ap (λ n. left stopped class.known + n) (count-never stopped class.untold)
    ∙ (let none : left stopped class.known + 0 ≡ left stopped class.known = omega arith in none)

pub kept-worst : (keep : ℕ) (stopped : ℕ → Bool) (class : Class)
    → breaks_kept keep stopped (completion class stopped)
    ≡ nat_lt (left stopped class.known) (min (length class.known + count_by stopped class.untold) keep)
kept-worst keep stopped class =
    λ i. nat_lt (left-worst class stopped i) (min (length-completion class stopped i) keep)

second_true : (a b : Bool) → (a && b) ≡ true → b ≡ true
second_true true b both = both
second_true false b both = cc

worse : (keep known left holds stops fails stopped : ℕ) → holds ≡ stops + fails → stops ≤ stopped
    → nat_lt (left + fails) (min (known + holds) keep) ≡ true → nat_lt left (min (known + stopped) keep) ≡ true
worse keep known left holds stops fails stopped split within breaks = grind (arith, nat_tests)

-- where some completion breaks the rule, the worst one does
pub kept-some : (keep : ℕ) (stopped holds : ℕ → Bool) (class : Class)
    → breaks_kept keep stopped (completion class holds) ≡ true
    → breaks_kept keep stopped (completion class stopped) ≡ true
kept-some keep stopped holds class breaks =
    kept-worst keep stopped class
    ∙ worse keep (length class.known) (left stopped class.known) (count_by holds class.untold)
    (count_by (λ b. holds b && stopped b) class.untold)
    (count_by (λ b. holds b && not (stopped b)) class.untold) (count_by stopped class.untold)
    (count-split holds stopped class.untold)
    (count-le (λ b. holds b && stopped b) stopped class.untold (λ b both. second_true (holds b) (stopped b) both))
    ((λ i. nat_lt (sym (left-completion class stopped holds) i) (min (sym (length-completion class holds) i) keep)) ∙ breaks)

-- readable, by what is known and unknown
readable_counts : (k left s stops : ℕ) → k ≡ stops + left → (nat_lt 0 (k + s) && nat_eq left 0) ≡ (nat_eq k stops && nat_lt 0 (stops + s))
readable_counts k left s stops split = grind (arith, nat_tests)

-- what breaks a rule for a part breaks it for the whole
pub left-part : (part whole : ℕ → Bool) (copies : List ℕ) → ((b : ℕ) → part b ≡ true → whole b ≡ true) → left whole copies ≤ left part copies
left-part part whole copies within = count-le (λ b. not (whole b)) (λ b. not (part b)) copies (λ b. turned (part b) (whole b) (within b)) where
  turned : (a b : Bool) → (a ≡ true → b ≡ true) → not b ≡ true → not a ≡ true
  turned true true implies fails = fails
  turned true false implies fails = cc (implies refl)
  turned false b implies fails = refl

more_broken : (keep n fewer more : ℕ) → fewer ≤ more → nat_lt more (min n keep) ≡ true → nat_lt fewer (min n keep) ≡ true
more_broken keep n fewer more within breaks = grind (arith, nat_tests)

pub kept-part : (keep : ℕ) (part whole : ℕ → Bool) (copies : List ℕ) → ((b : ℕ) → part b ≡ true → whole b ≡ true)
    → breaks_kept keep part copies ≡ true → breaks_kept keep whole copies ≡ true
kept-part keep part whole copies within breaks =
    more_broken keep (length copies) (left whole copies) (left part copies) (left-part part whole copies within) breaks

readable_kept : (n left : ℕ) → left ≤ n → (nat_lt 0 n && nat_eq left 0) ≡ nat_lt left (min n 1)
readable_kept n left within = grind (arith, nat_tests)

-- what can be read keeps one copy
pub readable-kept : (stopped : ℕ → Bool) (copies : List ℕ) → breaks_readable stopped copies ≡ breaks_kept 1 stopped copies
readable-kept stopped copies = readable_kept (length copies) (left stopped copies) (count_by-le-length (λ b. not (stopped b)) copies)

pub readable-some : (stopped holds : ℕ → Bool) (class : Class)
    → breaks_readable stopped (completion class holds) ≡ true → breaks_readable stopped (completion class stopped) ≡ true
readable-some stopped holds class breaks =
    readable-kept stopped (completion class stopped)
    ∙ kept-some 1 stopped holds class (sym (readable-kept stopped (completion class holds)) ∙ breaks)

-- and where the worst completion of a part breaks it, that of the whole does
pub kept-worst_part : (keep : ℕ) (part whole : ℕ → Bool) (class : Class) → ((b : ℕ) → part b ≡ true → whole b ≡ true)
    → breaks_kept keep part (completion class part) ≡ true → breaks_kept keep whole (completion class whole) ≡ true
kept-worst_part keep part whole class within breaks =
    kept-some keep whole part class (kept-part keep part whole (completion class part) within breaks)

all_stopped : (stopped : ℕ → Bool) (copies : List ℕ) → list_all stopped copies ≡ nat_eq (left stopped copies) 0
all_stopped stopped [] = refl
all_stopped stopped (b ∷ copies) =
    one (stopped b) (list_all stopped copies) (left stopped copies) (all_stopped stopped copies)
    ∙ ap (λ n. nat_eq n 0) (sym (count-cons (λ b. not (stopped b)) b copies)) where
      one : (here later : Bool) (n : ℕ) → later ≡ nat_eq n 0 → (here && later) ≡ nat_eq (cond (not here) 1 0 + n) 0
      one true later n was = was ∙ (let none : n ≡ 0 + n = omega arith in ap (λ n. nat_eq n 0) none)
      one false later n was = grind (arith, nat_tests)

turned_round : (a b : Bool) → (a && b) ≡ (b && a)
turned_round true true = refl
turned_round true false = refl
turned_round false true = refl
turned_round false false = refl

-- the worst completion breaks the first rule exactly where all that are known are stopped, and there is a copy that is
-- known, or one of the stopped is untold
pub readable-worst : (stopped : ℕ → Bool) (class : Class)
    → breaks_readable stopped (completion class stopped)
    ≡ (list_all stopped class.known && nat_lt 0 (length class.known + count_by stopped class.untold))
readable-worst stopped class =
    (λ i. nat_lt 0 (length-completion class stopped i) && nat_eq (left-worst class stopped i) 0)
    ∙ turned_round (nat_lt 0 (length class.known + count_by stopped class.untold)) (nat_eq (left stopped class.known) 0)
    ∙ ap (λ all. all && nat_lt 0 (length class.known + count_by stopped class.untold)) (sym (all_stopped stopped class.known))

-- Members of completions

any-append : (p : ℕ → Bool) (xs ys : List ℕ) → list_any p (xs ++ ys) ≡ (list_any p xs || list_any p ys)
any-append p [] ys = refl
any-append p (x ∷ xs) ys = ap (λ b. p x || b) (any-append p xs ys) ∙ grouped (p x) (list_any p xs) (list_any p ys) where
  grouped : (a b c : Bool) → (a || (b || c)) ≡ ((a || b) || c)
  grouped true b c = refl
  grouped false b c = refl

any_filtered : (holds : ℕ → Bool) (b x : ℕ) (xs : List ℕ) → list_any (λ c. c == b) (filter holds xs) ≡ (list_any (λ c. c == b) xs && holds b)
    → (held same : Bool) → holds x ≡ held → (x == b) ≡ same
    → list_any (λ c. c == b) (cond held (x ∷ filter holds xs) (filter holds xs)) ≡ ((same || list_any (λ c. c == b) xs) && holds b)
any_filtered holds b x xs rest true true held same = ap (λ y. y || list_any (λ c. c == b) (filter holds xs)) same ∙ sym (ap holds (sym (equal x b same)) ∙ held) where
  equal : (x b : ℕ) → (x == b) ≡ true → x ≡ b
  equal x b same = grind (arith, nat_tests)
any_filtered holds b x xs rest true false held same = ap (λ y. y || list_any (λ c. c == b) (filter holds xs)) same ∙ rest
any_filtered holds b x xs rest false true held same = rest ∙ nothing (list_any (λ c. c == b) xs) (holds b) (ap holds (sym (equal x b same)) ∙ held) where
  equal : (x b : ℕ) → (x == b) ≡ true → x ≡ b
  equal x b same = grind (arith, nat_tests)

  nothing : (a h : Bool) → h ≡ false → (a && h) ≡ h
  nothing true h none = refl
  nothing false h none = sym none
any_filtered holds b x xs rest false false held same = rest

pub any-filter : (holds : ℕ → Bool) (b : ℕ) (xs : List ℕ) → list_any (λ c. c == b) (filter holds xs) ≡ (list_any (λ c. c == b) xs && holds b)
any-filter holds b [] = refl
any-filter holds b (x ∷ xs) = any_filtered holds b x xs (any-filter holds b xs) (holds x) (x == b) refl refl

pub any-completion : (class : Class) (holds : ℕ → Bool) (b : ℕ)
    → list_any (λ c. c == b) (completion class holds)
    ≡ (list_any (λ c. c == b) class.known || (list_any (λ c. c == b) class.untold && holds b))
any-completion class holds b =
    any-append (λ c. c == b) class.known (filter holds class.untold)
    ∙ ap (λ later. list_any (λ c. c == b) class.known || later) (any-filter holds b class.untold)

-- What is broken whatever the untold hold

both_parts : (a : Bool) (s n l : ℕ) → s + l ≡ n → (cond a 1 0 + s) + (cond (not a) 1 0 + l) ≡ 1 + n
both_parts true s n l was = omega arith
both_parts false s n l was = omega arith

-- those that are stopped, and those that are left, are all
pub stopped-left : (stopped : ℕ → Bool) (names : List ℕ) → count_by stopped names + left stopped names ≡ length names
stopped-left stopped [] = omega arith
stopped-left stopped (b ∷ names) =
    let long : length (b ∷ names) ≡ 1 + length names = omega arith in
    (λ i. count-cons stopped b names i + count-cons (λ x. not (stopped x)) b names i)
    ∙ both_parts (stopped b) (count_by stopped names) (length names) (left stopped names) (stopped-left stopped names)
    ∙ sym long

twice : (a : Bool) → (a && a) ≡ a
twice true = refl
twice false = refl

pub left-best : (class : Class) (stopped : ℕ → Bool)
    → left stopped (completion class (λ b. not (stopped b))) ≡ left stopped class.known + left stopped class.untold
left-best class stopped =
    left-completion class stopped (λ b. not (stopped b))
    ∙ (λ i. left stopped class.known + count_by (λ b. twice (not (stopped b)) i) class.untold)

best_counts : (keep known stops lefts more : ℕ) → stops + lefts ≡ known
    → nat_lt (lefts + more) (min (known + more) keep) ≡ (nat_lt 0 stops && nat_lt (lefts + more) keep)
best_counts keep known stops lefts more split = grind (arith, nat_tests)

pub kept-best : (keep : ℕ) (stopped : ℕ → Bool) (class : Class)
    → breaks_kept keep stopped (completion class (λ b. not (stopped b)))
    ≡ (nat_lt 0 (count_by stopped class.known) && nat_lt (left stopped class.known + left stopped class.untold) keep)
kept-best keep stopped class =
    (λ i. nat_lt (left-best class stopped i) (min (length-completion class (λ b. not (stopped b)) i) keep))
    ∙ best_counts keep (length class.known) (count_by stopped class.known) (left stopped class.known) (left stopped class.untold)
    (stopped-left stopped class.known)

no_better : (keep known lefts more holds stops fails : ℕ) → holds ≡ stops + fails → fails ≤ more
    → nat_lt (lefts + more) (min (known + more) keep) ≡ true → nat_lt (lefts + fails) (min (known + holds) keep) ≡ true
no_better keep known lefts more holds stops fails split within breaks = grind (arith, nat_tests)

pub kept-every : (keep : ℕ) (stopped holds : ℕ → Bool) (class : Class)
    → breaks_kept keep stopped (completion class (λ b. not (stopped b))) ≡ true
    → breaks_kept keep stopped (completion class holds) ≡ true
kept-every keep stopped holds class breaks =
    (λ i. nat_lt (left-completion class stopped holds i) (min (length-completion class holds i) keep))
    ∙ no_better keep (length class.known) (left stopped class.known) (left stopped class.untold) (count_by holds class.untold)
    (count_by (λ b. holds b && stopped b) class.untold) (count_by (λ b. holds b && not (stopped b)) class.untold)
    (count-split holds stopped class.untold)
    (count-le (λ b. holds b && not (stopped b)) (λ b. not (stopped b)) class.untold (λ b both. second_true (holds b) (not (stopped b)) both))
    ((λ i. nat_lt (sym (left-best class stopped) i) (min (sym (length-completion class (λ b. not (stopped b))) i) keep)) ∙ breaks)

-- what every completion breaks for a part, every completion breaks for the whole
pub kept-best_part : (keep : ℕ) (part whole : ℕ → Bool) (class : Class) → ((b : ℕ) → part b ≡ true → whole b ≡ true)
    → breaks_kept keep part (best part class) ≡ true → breaks_kept keep whole (best whole class) ≡ true
kept-best_part keep part whole class within breaks =
    kept-part keep part whole (best whole class) within (kept-every keep part (λ b. not (whole b)) class breaks)

reading : (k l u : ℕ) → l ≤ k → (nat_lt 0 (k + u) && nat_eq (l + u) 0) ≡ (nat_lt 0 k && (nat_eq l 0 && nat_eq u 0))
reading k l u within = grind (arith, nat_tests)

pub readable-best : (stopped : ℕ → Bool) (class : Class)
    → breaks_readable stopped (best stopped class)
    ≡ (nat_lt 0 (length class.known) && (list_all stopped class.known && list_all stopped class.untold))
readable-best stopped class =
    (λ i. nat_lt 0 (length-completion class (λ b. not (stopped b)) i) && nat_eq (left-best class stopped i) 0)
    ∙ reading (length class.known) (left stopped class.known) (left stopped class.untold)
    (count_by-le-length (λ b. not (stopped b)) class.known)
    ∙ (λ i. nat_lt 0 (length class.known) && (sym (all_stopped stopped class.known) i && sym (all_stopped stopped class.untold) i))

pub some-keep : (keep : Keep) (ack_quorum : ℕ) → 1 ≤ copies_to_keep keep ack_quorum
some-keep AckQuorum ack_quorum = omega arith
some-keep (Copies number) ack_quorum = omega arith
some-keep AckLessOne ack_quorum = omega arith

more_kept : (keep left n : ℕ) → 1 ≤ keep → nat_lt left (min n 1) ≡ true → nat_lt left (min n keep) ≡ true
more_kept keep left n some breaks = grind (arith, nat_tests)

-- what can't be read keeps too few
pub readable-is_kept : (keep : Keep) (ack_quorum : ℕ) (stopped : ℕ → Bool) (copies : List ℕ)
    → breaks_readable stopped copies ≡ true → breaks_kept (copies_to_keep keep ack_quorum) stopped copies ≡ true
readable-is_kept keep ack_quorum stopped copies breaks =
    more_kept (copies_to_keep keep ack_quorum) (left stopped copies) (length copies) (some-keep keep ack_quorum)
    (sym (readable-kept stopped copies) ∙ breaks)

settled : (k u c : Bool) → (k ≡ true → c ≡ true) → (c ≡ true → (k || u) ≡ true) → (k || (u && c)) ≡ c
settled true u c known within = sym (known refl)
settled false true c known within = refl
settled false false true known within = within refl
settled false false false known within = refl

-- whatever has the known copies, and else untold ones alone, is a completion
pub completion-each : (class : Class) (copies : ℕ → Bool)
    → ((b : ℕ) → is_in class.known b ≡ true → copies b ≡ true)
    → ((b : ℕ) → copies b ≡ true → (is_in class.known b || is_in class.untold b) ≡ true)
    → (b : ℕ) → is_in (completion class copies) b ≡ copies b
completion-each class copies known within b =
    any-completion class copies b ∙ settled (is_in class.known b) (is_in class.untold b) (copies b) (known b) (within b)
