-- Where a book may answer 'out of memory'.
use Rattle.std.proofs.Common.{◌≡◌, ◌≢◌, ℕ, Bool, true, false, ◌⊎◌, inl, inr, refl, sym, ap, ◌∙◌, true≢false}
use Rattle.std.specs.Prelude.{IsTrue}
use Rattle.reh_types.specs.declared.calls.Call.{Call}
use Rattle.reh_types.specs.declared.calls.Call.TheVariants.{Ask, Checkout, Spend, Discard}
use Rattle.reh_types.specs.declared.contents.Content.{Content}
use Rattle.reh_types.specs.declared.moves.Move.{Move}
use Rattle.reh_types.specs.declared.moves.Reply.{Reply}
use Rattle.reh_types.specs.declared.moves.Reply.TheVariants.{Done, Discarded, Refused}
use Rattle.reh_types.specs.declared.names.Aim.{Aim}
use Rattle.reh_types.specs.declared.refusals.Refusal.TheVariants.{NotOut, TapeFull, NoMemory}
use Rattle.reh_model.specs.Checks.{reason_if}
use Rattle.reh_model.specs.Book.{Book, or_refused, answer_to, is_written, Answers}
use Rattle.reh_model.proofs.BookLaws.{post_written}

-- tells 'out of memory' from a ticket that is not out
abbrev is_want : Reply → Bool
is_want (Refused NoMemory) = true
is_want reply = false

-- where a ticket is wanted, the book itself never answers 'out of memory'
no_want : (condition : Bool) (answer : Reply) → IsTrue (is_written answer) → Refused NoMemory ≡ or_refused (reason_if condition NotOut) answer → ⊥
no_want true answer written is = true≢false (ap is_want is)
no_want false answer written is = true≢false (sym (ap is_written is ∙ written))

-- a spend wants memory only in place of a post that is done,
pub spend_wants : (b c : Book) (seat number : ℕ) (content : Content) → Answers b seat (Spend number content) (Refused NoMemory) c → answer_to b seat (Spend number content) ≡ Done
spend_wants b c seat number content answers = of answers.0
  where
    of : (Refused NoMemory ≡ answer_to b seat (Spend number content)) ⊎ ((Refused NoMemory ≡ Refused NoMemory) × (answer_to b seat (Spend number content) ≡ Done)) → answer_to b seat (Spend number content) ≡ Done
    of (inl is) = absurd (no_want _ _ (post_written b.session content) is)
    of (inr want) = want.1

-- and a discard never
pub discard_wants : (b c : Book) (seat number : ℕ) (aim : Aim) → Answers b seat (Discard number aim) (Refused NoMemory) c → ⊥
discard_wants b c seat number aim answers = of answers.0
  where
    of : (Refused NoMemory ≡ answer_to b seat (Discard number aim)) ⊎ ((Refused NoMemory ≡ Refused NoMemory) × ⊥) → ⊥
    of (inl is) = no_want _ Discarded refl is
    of (inr want) = want.1

-- 'out of memory' never stands in place of a full tape
full : (reply answer : Reply) → answer ≡ Refused TapeFull → (reply ≡ answer) ⊎ ((reply ≡ Refused NoMemory) × (answer ≢ Refused TapeFull)) → reply ≡ Refused TapeFull
full reply answer is (inl same) = same ∙ is
full reply answer is (inr want) = absurd (want.1 is)

pub move_full : (b c : Book) (seat : ℕ) (move : Move) (reply : Reply) → answer_to b seat (Ask move) ≡ Refused TapeFull → Answers b seat (Ask move) reply c → reply ≡ Refused TapeFull
move_full b c seat move reply is answers = full reply _ is answers.0

pub checkout_full : (b c : Book) (seat : ℕ) (aim : Aim) (reply : Reply) → answer_to b seat (Checkout aim) ≡ Refused TapeFull → Answers b seat (Checkout aim) reply c → reply ≡ Refused TapeFull
checkout_full b c seat aim reply is answers = full reply _ is answers.0

-- what adds no line changes nothing
pub unchanged : (b c : Book) (seat : ℕ) (call : Call) → Answers b seat call (Refused NoMemory) c ⊎ (Answers b seat call (Refused NotOut) c ⊎ Answers b seat call (Refused TapeFull) c) → c ≡ b
unchanged b c seat call (inl want) = want.1
unchanged b c seat call (inr (inl gone)) = gone.1
unchanged b c seat call (inr (inr over)) = over.1
