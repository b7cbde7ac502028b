-- Ledgers that are named in comments, one after another.
use Rattle.std.proofs.Common.{◌≡◌, ◌⊎◌, inr, ℕ, ◌+◌, ◌<◌, Bool, true, false, cond, None, List, [], ◌∷◌, ◌++◌, length, map, take, get_or, refl, sym, ap, ◌∙◌, subst, arith, append_assoc, append-nil, true≢false, length-append}
use Rattle.std.specs.Prelude.{All, Any, IsTrue}
use Rattle.std.specs.List.{filter}
use Rattle.std.proofs.lemmas.List.{get_or_append_left, map-append, map_more, take_more}
use Rattle.std.proofs.lemmas.List.Elements.{All-append, All-cons, All-map, All-nil, All-weaker, filter-append}
use Rattle.std.proofs.lemmas.List.Quantifiers.{Any-push}
use Rattle.reh_model.specs.Cluster.{Cluster, Ledger}
use Rattle.reh_commands.specs.Answers.{asked}
use Rattle.reh_plan.specs.Ends.{full_line}
use Rattle.reh_plan.specs.Plans.{Draft, comment_of, is_left, left_ids, left_line, IsLeftFor, IsLeftLine, IsNamed, AllLeft, AllNamed}
use Rattle.reh_plan.specs.Reasons.{reason_text}
use Rattle.reh_plan.specs.Workers.{Rules}
use Rattle.reh_plan.specs.declared.reasons.Left.{Left}

-- one ledger more, with which something is left or nothing
ids_more : (s : Cluster) (ledgers : List Ledger) (k : ℕ) (g : Ledger) → k < length ledgers → g ≡ get_or ledgers k g
    → left_ids s (take (k + 1) ledgers)
    ≡ left_ids s (take k ledgers) ++ map (λ h. h.id) (cond (is_left s g) (g ∷ []) [])
ids_more s ledgers k g within is =
    ap (left_ids s) (take_more ledgers k g within ∙ ap (λ (h : Ledger). take k ledgers ++ h ∷ []) (sym is))
    ∙ ap (map (λ h. h.id)) (filter-append (is_left s) (take k ledgers) (g ∷ []))
    ∙ map-append (λ h. h.id) (filter (is_left s) (take k ledgers)) (cond (is_left s g) (g ∷ []) [])

pub ids_left : (s : Cluster) (ledgers : List Ledger) (k : ℕ) (g : Ledger) (left : List Left) (one : Left) → k < length ledgers
    → g ≡ get_or ledgers k g → is_left s g ≡ true → one.ledger ≡ g.id → map (λ l. l.ledger) left ≡ left_ids s (take k ledgers)
    → map (λ l. l.ledger) (left ++ one ∷ []) ≡ left_ids s (take (k + 1) ledgers)
ids_left s ledgers k g left one within is more id so_far =
    map-append (λ l. l.ledger) left (one ∷ [])
    ∙ (λ i. so_far i ++ id i ∷ [])
    ∙ ap (λ (t : Bool). left_ids s (take k ledgers) ++ map (λ h. h.id) (cond t (g ∷ []) [])) (sym more)
    ∙ sym (ids_more s ledgers k g within is)

pub ids_same : (s : Cluster) (ledgers : List Ledger) (k : ℕ) (g : Ledger) → k < length ledgers → g ≡ get_or ledgers k g
    → is_left s g ≡ false → left_ids s (take k ledgers) ≡ left_ids s (take (k + 1) ledgers)
ids_same s ledgers k g within is none =
    sym (append-nil (left_ids s (take k ledgers)))
    ∙ ap (λ (t : Bool). left_ids s (take k ledgers) ++ map (λ h. h.id) (cond t (g ∷ []) [])) (sym none)
    ∙ sym (ids_more s ledgers k g within is)

-- one comment more
pub comments_more : (d n m : Draft) (left : List Left) (k : ℕ) (one : Left) → k < length left → one ≡ get_or left k one
    → n ≡ record d { lines = d.lines ++ map comment_of (take k left) } → m ≡ record n { lines = n.lines ++ comment_of one ∷ [] }
    → m ≡ record d { lines = d.lines ++ map comment_of (take (k + 1) left) }
comments_more d n m left k one within is so_far grown =
    let before : List (List ℕ) = map comment_of (take k left) in
    let more : before ++ comment_of one ∷ [] ≡ map comment_of (take (k + 1) left) =
    ap (λ (x : Left). before ++ comment_of x ∷ []) is ∙ sym (map_more comment_of left k one within) in
    grown
    ∙ ap (λ (x : Draft). record x { lines = x.lines ++ comment_of one ∷ [] }) so_far
    ∙ ap (λ (ls : List (List ℕ)). record d { lines = ls })
    (append_assoc d.lines before (comment_of one ∷ []) ∙ ap (λ (ls : List (List ℕ)). d.lines ++ ls) more)

Any-more : {X : Type 0} (P : X → Type 0) (xs ys : List X) → Any P xs → Any P (xs ++ ys)
Any-more P xs ys some =
    (some.0, some.1, omega (arith, some.2, length-append xs ys), get_or_append_left xs ys some.1 some.0 some.2 ∙ some.3, some.4)

-- more lines name no fewer
pub named_on : (s : Cluster) (lines more : List (List ℕ)) (ledgers : List Ledger) → AllNamed s lines ledgers → AllNamed s (lines ++ more) ledgers
named_on s lines more ledgers named k d within left = Any-more _ lines more (named k d within left)

-- a comment on the first of these ledgers, and then on the others
named_first : (s : Cluster) (lines : List (List ℕ)) (left : List Left) (g : Ledger) (ledgers : List Ledger)
    → ((ls : List (List ℕ)) (others : List Left) → map (λ l. l.ledger) others ≡ left_ids s ledgers → AllNamed s (ls ++ map comment_of others) ledgers)
    → map (λ l. l.ledger) left ≡ g.id ∷ left_ids s ledgers → AllNamed s (lines ++ map comment_of left) (g ∷ ledgers)
named_first s lines [] g ledgers named of = cc
named_first s lines (one ∷ left) g ledgers named of =
    let first : one.ledger ≡ g.id = cc in
    let rest : map (λ l. l.ledger) left ≡ left_ids s ledgers = cc in
    let grown : (lines ++ comment_of one ∷ []) ++ map comment_of left ≡ lines ++ map comment_of (one ∷ left) =
    append_assoc lines (comment_of one ∷ []) (map comment_of left) in
    subst (λ (ls : List (List ℕ)). AllNamed s ls (g ∷ ledgers)) grown
    (All-cons (λ h. IsTrue (is_left s h) → IsNamed ((lines ++ comment_of one ∷ []) ++ map comment_of left) h.id) g ledgers
    (λ _. Any-more _ (lines ++ comment_of one ∷ []) (map comment_of left)
    (Any-push _ lines (comment_of one) (reason_text one.reason, ap (λ n. left_line n (reason_text one.reason)) first)))
    (named (lines ++ comment_of one ∷ []) left rest))

-- the comments name each ledger that is left
pub named_by : (s : Cluster) (lines : List (List ℕ)) (left : List Left) (ledgers : List Ledger) → map (λ l. l.ledger) left ≡ left_ids s ledgers
    → AllNamed s (lines ++ map comment_of left) ledgers
named_by s lines left [] of = All-nil (λ g. IsTrue (is_left s g) → IsNamed (lines ++ map comment_of left) g.id)
named_by s lines left (g ∷ ledgers) of =
    elim (is_left s g) as (λ t. is_left s g ≡ t → map (λ l. l.ledger) left ≡ map (λ h. h.id) (cond t (g ∷ filter (is_left s) ledgers) (filter (is_left s) ledgers)) → AllNamed s (lines ++ map comment_of left) (g ∷ ledgers)) [
      | true ↦ λ more. named_first s lines left g ledgers (λ ls others. named_by s ls others ledgers)
      | false ↦ λ none others.
          All-cons (λ h. IsTrue (is_left s h) → IsNamed (lines ++ map comment_of left) h.id) g ledgers
          (λ is. absurd (true≢false (sym is ∙ none))) (named_by s lines left ledgers others)
    ] refl of

-- such a comment is one on a ledger that is left
one_left : (rules : Rules) (full : Bool) (s : Cluster) (l : Left) → IsLeftFor rules full s s.parts.ledgers l
    → IsLeftLine rules full s s.parts.ledgers (comment_of l)
one_left rules full s l is =
    (is.0, is.1, is.2, is.3, (is.4.1, (l.reason, is.4.2, ap (λ n. left_line n (reason_text l.reason)) is.4.0)))

-- and so is each of them
pub left_after : (rules : Rules) (full : Bool) (names : List (List ℕ)) (s : Cluster) (lines : List (List ℕ)) (left : List Left)
    → AllLeft rules full names s lines → All (IsLeftFor rules full s s.parts.ledgers) left
    → AllLeft rules full names s (lines ++ map comment_of left)
left_after rules full names s lines left only why =
    let P : List ℕ → Type 0 =
    λ line. asked names line ≡ None → (line ≡ full_line) ⊎ IsLeftLine rules full s s.parts.ledgers line in
    All-append P lines (map comment_of left) only
    (All-map P comment_of left
    (All-weaker (IsLeftFor rules full s s.parts.ledgers) (λ l. P (comment_of l)) (λ l is _. inr (one_left rules full s l is)) left why))
