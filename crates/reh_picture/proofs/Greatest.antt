-- The greatest entry of a ledger, by the ends of the ranges that are held.
use Rattle.std.proofs.Common.{◌≡◌, ℕ, zero, suc, ◌+◌, ◌-◌, ◌<◌, ◌≤◌, Bool, true, false, cond, List, [], ◌∷◌, ◌++◌, map}
use Rattle.std.proofs.Common.{length, take, get_or, Option, None, Some, refl, sym, ap, ◌∙◌, subst, arith, nat_eq}
use Rattle.std.proofs.Common.{append-nil}
use Rattle.std.specs.Prelude.{◌==◌, max, All}
use Rattle.std.specs.List.{filter, fold, flat_map, range_with_len, reduce}
use Rattle.std.specs.Option.{ForSome, option_map_or}
use Rattle.std.proofs.lemmas.List.{take_more}
use Rattle.std.proofs.lemmas.List.Elements.{All-cons, All-head, All-nil, All-tail}
use Rattle.std.proofs.lemmas.List.Sums.{fold-append}
use Rattle.std.proofs.lemmas.Grind.{flat_map-append}
use Rattle.reh_types.specs.Sets as set
use Rattle.reh_model.specs.Contents.{Contents, entries_held, greatest_held}
use Rattle.reh_model.proofs.ContentsLaws.{greatest_held-insert}
use Rattle.reh_picture.specs.Contents.{copies_within, IsGreatest}

-- the greater of an end and what was the greatest, if the end is of the ledger
abbrev pub with_end : Bool → ℕ → Option ℕ → Option ℕ
with_end here last greatest = cond here (Some (option_map_or (λ end. max end last) greatest last)) greatest

-- an entry before the end makes no difference
with_end-past : (here : Bool) (e last : ℕ) (greatest : Option ℕ) → e ≤ last
    → with_end here last (with_end here e greatest) ≡ with_end here last greatest
with_end-past true e last None before = ap Some (omega arith)
with_end-past true e last (Some m) before = ap Some (omega arith)
with_end-past false e last greatest before = refl

-- after a run of entries is added, the last of them counts
greatest-run : (s : Contents) (w l first n k : ℕ)
    → greatest_held (fold set.insert s (map (λ e. (w, l, e)) (range_with_len first (suc n)))) k
    ≡ with_end (nat_eq l k) (first + n) (greatest_held s k)
greatest-run s w l first zero k =
    greatest_held-insert s w l first k ∙ ap (λ e. with_end (nat_eq l k) e (greatest_held s k)) (omega arith)
greatest-run s w l first (suc n) k =
    greatest-run (set.insert s (w, l, first)) w l (first + 1) n k
    ∙ ap (with_end (nat_eq l k) (first + 1 + n)) (greatest_held-insert s w l first k)
    ∙ with_end-past (nat_eq l k) first (first + 1 + n) (greatest_held s k) (omega arith)
    ∙ ap (λ e. with_end (nat_eq l k) e (greatest_held s k)) (omega arith)

-- after a range is added, its end counts
pub greatest-copies_within : (s : Contents) (w l : ℕ) (ends : ℕ × ℕ) (k : ℕ) → ends.0 ≤ ends.1
    → greatest_held (fold set.insert s (copies_within w l ends)) k ≡ with_end (nat_eq l k) ends.1 (greatest_held s k)
greatest-copies_within s w l ends k some =
    let long : (ends.1 + 1) - ends.0 ≡ suc (ends.1 - ends.0) = omega arith in
    ap (λ n. greatest_held (fold set.insert s (map (λ e. (w, l, e)) (range_with_len ends.0 n))) k) long
    ∙ greatest-run s w l ends.0 (ends.1 - ends.0) k
    ∙ ap (λ e. with_end (nat_eq l k) e (greatest_held s k)) (omega arith)

-- ends that say the greatest entries go on saying them, after one more range
pub IsGreatest-range : (before after : ℕ → Option ℕ) (s : Contents) (w l : ℕ) (ends : ℕ × ℕ) → ends.0 ≤ ends.1
    → IsGreatest before s
    → ((q : ℕ)
    → after q ≡ cond (nat_eq l q) (Some (option_map_or (λ end. max end ends.1) (before q) ends.1)) (before q))
    → IsGreatest after (fold set.insert s (copies_within w l ends))
IsGreatest-range before after s w l ends some is noted k =
    noted k ∙ ap (with_end (nat_eq l k) ends.1) (is k) ∙ sym (greatest-copies_within s w l ends k some)

-- the contents after one range more of a holding
pub copies-next : (s : Contents) (w l : ℕ) (ranges : List (ℕ × ℕ)) (i : ℕ) (d : ℕ × ℕ) → i < length ranges
    → fold set.insert s (flat_map (copies_within w l) (take (i + 1) ranges))
    ≡ fold set.insert (fold set.insert s (flat_map (copies_within w l) (take i ranges)))
    (copies_within w l (get_or ranges i d))
copies-next s w l ranges i d within =
    let range = get_or ranges i d in
    ap (λ (rs : List (ℕ × ℕ)). fold set.insert s (flat_map (copies_within w l) rs)) (take_more ranges i d within)
    ∙ ap (fold set.insert s)
    (flat_map-append (copies_within w l) (take i ranges) (range ∷ [])
    ∙ ap (λ ts. flat_map (copies_within w l) (take i ranges) ++ ts) (append-nil (copies_within w l range)))
    ∙ fold-append set.insert s (flat_map (copies_within w l) (take i ranges)) (copies_within w l range)

-- ends go on saying them along the ranges of a holding
pub IsGreatest-next : (before after : ℕ → Option ℕ) (s : Contents) (w l : ℕ) (ranges of_holding : List (ℕ × ℕ)) (i : ℕ)
    (d : ℕ × ℕ) → i < length ranges
    → ranges ≡ of_holding → All (λ range. range.0 ≤ range.1) of_holding
    → IsGreatest before (fold set.insert s (flat_map (copies_within w l) (take i ranges)))
    → ((q : ℕ)
    → after q
    ≡ cond (nat_eq l q) (Some (option_map_or (λ end. max end (get_or ranges i d).1) (before q) (get_or ranges i d).1))
    (before q))
    → IsGreatest after (fold set.insert s (flat_map (copies_within w l) (take (i + 1) ranges)))
IsGreatest-next before after s w l ranges of_holding i d within same some is noted =
    let range = get_or ranges i d in
    let each : All (λ (range : ℕ × ℕ). range.0 ≤ range.1) ranges =
    subst (λ (rs : List (ℕ × ℕ)). All (λ range. range.0 ≤ range.1) rs) (sym same) some in
    let so_far = fold set.insert s (flat_map (copies_within w l) (take i ranges)) in
    subst (λ (t : Contents). IsGreatest after t) (sym (copies-next s w l ranges i d within))
    (IsGreatest-range before after so_far w l range (each i d within) is noted)

-- The greatest entry where all are below a number

fold-low : (es : List ℕ) (e n : ℕ) → e < n → All (λ x. x < n) es → fold max e es < n
fold-low [] e n low others = low
fold-low (x ∷ es) e n low others =
    let first : x < n = All-head (λ x. x < n) x es others in
    fold-low es (max e x) n (omega (arith, low, first)) (All-tail (λ x. x < n) x es others)

reduce-low : (es : List ℕ) (n : ℕ) → All (λ x. x < n) es → ForSome (reduce max es) (λ x. x < n)
reduce-low [] n low = λ x is. cc
reduce-low (e ∷ es) n low = λ x is. let same : fold max e es ≡ x = cc in
    subst (λ (y : ℕ). y < n) same (fold-low es e n (All-head (λ x. x < n) e es low) (All-tail (λ x. x < n) e es low))

entries-low : (l n : ℕ) (ts : List (ℕ × ℕ × ℕ)) → All (λ t. t.2 < n) ts
    → All (λ x. x < n) (map (λ (t : ℕ × ℕ × ℕ). t.2) (filter (λ t. t.1 == l) ts))
entries-low l n [] low = All-nil (λ x. x < n)
entries-low l n (t ∷ ts) low =
    let others = entries-low l n ts (All-tail (λ (t : ℕ × ℕ × ℕ). t.2 < n) t ts low) in
    elim (t.1 == l) as (λ b.
    All (λ x. x < n)
    (map (λ (t : ℕ × ℕ × ℕ). t.2) (cond b (t ∷ filter (λ t. t.1 == l) ts) (filter (λ t. t.1 == l) ts)))) [
      | true ↦
          All-cons (λ x. x < n) t.2 (map (λ (t : ℕ × ℕ × ℕ). t.2) (filter (λ t. t.1 == l) ts))
          (All-head (λ (t : ℕ × ℕ × ℕ). t.2 < n) t ts low) others
      | false ↦ others
    ]

pub greatest_held-low : (contents : Contents) (l n : ℕ) → All (λ t. t.2 < n) (set.items contents)
    → ForSome (greatest_held contents l) (λ x. x < n)
greatest_held-low contents l n low = reduce-low (entries_held contents l) n (entries-low l n (set.items contents) low)
