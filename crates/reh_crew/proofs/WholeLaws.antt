-- What the workers of a closed desk gained is whole.
use Rattle.std.proofs.Common.{◌≡◌, ◌∙◌, ◌+◌, ◌++◌, ◌<◌, ◌∷◌, [], ℕ, zero, suc, List, ap, arith, inl, inr, length}
use Rattle.std.proofs.Common.{refl, subst, sym}
use Rattle.std.specs.Prelude.{slice_index_or}
use Rattle.reh_types.specs.declared.calls.Call.{Call}
use Rattle.reh_types.specs.declared.calls.Call.TheVariants.{Ask, Checkout, Spend, Discard}
use Rattle.reh_types.specs.declared.calls.Line.{Line}
use Rattle.reh_types.specs.declared.calls.OwnLine.{OwnLine}
use Rattle.reh_types.specs.declared.moves.Reply.{Reply}
use Rattle.reh_types.specs.declared.names.Aim.{Aim}
use Rattle.reh_model.specs.Session.{Session}
use Rattle.reh_desk.specs.Desks.{DeskView, AreNewFrom, AreNew, AllAgree, IsClosed, own_lines}
use Rattle.reh_desk.specs.Seats.{SeatView, new_seat}
use Rattle.reh_crew.specs.Balance.{issues_one, ends_one, issues, ends}
use Rattle.reh_crew.specs.Gained.{EndsTicket, IsGroup, IsOpen, AreGroups, GainedGroups, GainedSome, Gained, share_of}
use Rattle.reh_crew.proofs.BalanceLaws.{issues-history}

issues-append : (xs ys : List OwnLine) → issues (xs ++ ys) ≡ issues xs + issues ys
issues-append [] ys = omega arith
issues-append (x ∷ xs) ys = let rest = issues-append xs ys in omega (arith, rest)

ends-append : (xs ys : List OwnLine) → ends (xs ++ ys) ≡ ends xs + ends ys
ends-append [] ys = omega arith
ends-append (x ∷ xs) ys = let rest = ends-append xs ys in omega (arith, rest)

-- Groups balance

ends_ticket : (k : ℕ) (a : Aim) (call : Call) (reply : Reply) → EndsTicket k a call
    → (issues_one call reply ≡ 0) × (ends_one call ≡ 1)
ends_ticket k a (Ask move) reply ends = absurd ends
ends_ticket k a (Checkout aim) reply ends = absurd ends
ends_ticket k a (Spend number content) reply ends = (refl, refl)
ends_ticket k a (Discard number aim) reply ends = (refl, refl)

issues-group : (a : Aim) (lines : List OwnLine) → IsGroup a lines → issues lines ≡ ends lines
issues-group a lines (inl is) = rw is refl
issues-group a lines (inr (inl refused)) = rw refused.1 refl
issues-group a lines (inr (inr ended)) =
    let one = ends_ticket ended.0 a ended.1 ended.2 ended.3 in rw ended.4 (omega (arith, one.0, one.1))

issues-groups : (aims : List Aim) (lines : List OwnLine) → AreGroups aims lines → issues lines ≡ ends lines
issues-groups [] lines are = rw are refl
issues-groups (a ∷ aims) lines are =
    let first = issues-group a are.0 are.3 in
    let rest = issues-groups aims are.1 are.4 in
    rw are.2 (omega (arith, first, rest, issues-append are.0 are.1, ends-append are.0 are.1))

issues-open : (a : Aim) (lines : List OwnLine) → IsOpen a lines → issues lines ≡ ends lines + 1
issues-open a lines open_group = rw open_group.1 refl

-- so what balances has no open group
whole_all : (share : List Aim) (k : ℕ) (s : SeatView) → GainedGroups share (new_seat k) s → AreGroups share s.lines
whole_all share k s groups = rw groups.adds.lines groups.groups

not_some : (share : List Aim) (k : ℕ) (s : SeatView) → GainedSome share (new_seat k) s
    → issues s.lines ≡ ends s.lines → ⊥
not_some share k s some even =
    let before = issues-groups some.done some.groups.lines some.groups.groups in
    let one = issues-open some.aim some.last.lines some.last.opened in
    let lines : s.lines ≡ some.groups.lines ++ some.last.lines =
    some.last.adds.lines ∙ ap (λ (ls : List OwnLine). ls ++ some.last.lines) some.groups.adds.lines in
    let sums : issues (some.groups.lines ++ some.last.lines) ≡ ends (some.groups.lines ++ some.last.lines) =
    sym (ap issues lines) ∙ even ∙ ap ends lines in
    omega (
      arith,
      before,
      one,
      sums,
      issues-append some.groups.lines some.last.lines,
      ends-append some.groups.lines some.last.lines,
    )

whole : (share : List Aim) (k : ℕ) (s : SeatView) → Gained share (new_seat k) s → issues s.lines ≡ ends s.lines
    → AreGroups share s.lines
whole share k s (inl groups) even = whole_all share k s groups
whole share k s (inr some) even = absurd (not_some share k s some even)

number_kept : (share : List Aim) (old new : SeatView) → Gained share old new → new.number ≡ old.number
number_kept share old new (inl groups) = groups.adds.number
number_kept share old new (inr some) = some.last.adds.number ∙ some.groups.adds.number

-- Seats

new_at : (k : ℕ) (seats : List SeatView) (i : ℕ) (d : SeatView) → AreNewFrom k seats → i < length seats
    → slice_index_or seats i d ≡ new_seat (k + i)
new_at k [] i d are within = absurd (omega arith)
new_at k (s ∷ seats) zero d are within = are.0 ∙ ap new_seat (omega arith)
new_at k (s ∷ seats) (suc i) d are within = new_at (k + 1) seats i d are.1 (omega arith) ∙ ap new_seat (omega arith)

agree_at : (tape : List Line) (seats : List SeatView) (i : ℕ) (d : SeatView) → AllAgree tape seats → i < length seats
    → own_lines (slice_index_or seats i d).number tape ≡ (slice_index_or seats i d).lines
agree_at tape [] i d all within = absurd (omega arith)
agree_at tape (s ∷ seats) zero d all within = all.0
agree_at tape (s ∷ seats) (suc i) d all within = agree_at tape seats i d all.1 (omega arith)

pub groups_whole : (desk : DeskView) (before after : List SeatView) (session : Session) (tape : List Line)
    (aims : List Aim) → AreNew (length after) before
    → ((k : ℕ) (d : SeatView) → k < length before
    → Gained (share_of (length before) k aims) (slice_index_or before k d) (slice_index_or after k d))
    → IsClosed desk after session tape → (k : ℕ) → k < length after
    → AreGroups (share_of (length after) k aims) (own_lines k tape)
groups_whole desk before after session tape aims are gains closed k within =
    let d : SeatView = new_seat 0 in
    let s : SeatView = slice_index_or after k d in
    let there : k < length before = omega (arith, are.count) in
    let first : slice_index_or before k d ≡ new_seat k = new_at 0 before k d are.each there ∙ ap new_seat (omega arith) in
    let part : Gained (share_of (length before) k aims) (new_seat k) s =
    subst (λ (old : SeatView). Gained (share_of (length before) k aims) old s) first (gains k d there) in
    let gain : Gained (share_of (length after) k aims) (new_seat k) s =
    subst (λ (n : ℕ). Gained (share_of n k aims) (new_seat k) s) are.count part in
    let number : s.number ≡ k = number_kept (share_of (length after) k aims) (new_seat k) s gain in
    let lines : own_lines k tape ≡ s.lines =
    sym (ap (λ (n : ℕ). own_lines n tape) number) ∙ agree_at tape after k d closed.agree within in
    let even : issues s.lines ≡ ends s.lines =
    sym (ap issues lines) ∙ issues-history desk.opening tape session closed.history k ∙ ap ends lines in
    subst (AreGroups (share_of (length after) k aims)) (sym lines)
    (whole (share_of (length after) k aims) k s gain even)
