-- What a seat gains of a worker that attends to its share of the aims.
use Rattle.std.specs.Prelude.{◌≡◌, ◌⊎◌, ℕ, ◌+◌, ◌%◌, ◌==◌, if◌then◌else◌, List, [], ◌∷◌, ◌++◌}
use Rattle.reh_types.specs.declared.calls.Call.{Call}
use Rattle.reh_types.specs.declared.calls.Call.TheVariants.{Ask, Checkout, Spend, Discard}
use Rattle.reh_types.specs.declared.calls.OwnLine.{OwnLine}
use Rattle.reh_types.specs.declared.moves.Reply.{Reply}
use Rattle.reh_types.specs.declared.moves.Reply.TheVariants.{Issued, Refused}
use Rattle.reh_types.specs.declared.names.Aim.{Aim}
use Rattle.reh_types.specs.declared.refusals.Refusal.{Refusal}
use Rattle.reh_desk.specs.Seats.{SeatView, out_after, own_line}

-- Groups

-- the call ends the ticket of that number and aim
abbrev pub EndsTicket : ℕ → Aim → Call → Type 0
EndsTicket k a (Ask move) = ⊥
EndsTicket k a (Checkout aim) = ⊥
EndsTicket k a (Spend number content) = (number ≡ k) × (content.aim ≡ a)
EndsTicket k a (Discard number aim) = (number ≡ k) × (aim ≡ a)

-- a refused checkout of the aim
abbrev pub IsRefused : Aim → List OwnLine → Type 0
IsRefused a lines = (refusal : Refusal) × (lines ≡ own_line (Checkout a) (Refused refusal) ∷ [])

-- an issued checkout of the aim, followed by its spend or its discard
abbrev pub IsEnded : Aim → List OwnLine → Type 0
IsEnded a lines =
    (k : ℕ) × (call : Call) × (reply : Reply) × EndsTicket k a call
    × (lines ≡ own_line (Checkout a) (Issued k) ∷ own_line call reply ∷ [])

-- the lines for one aim: none, where its checkout adds none to the tape
abbrev pub IsGroup : Aim → List OwnLine → Type 0
IsGroup a lines = (lines ≡ []) ⊎ (IsRefused a lines ⊎ IsEnded a lines)

-- an issued checkout of the aim, whose ticket was not ended
abbrev pub IsOpen : Aim → List OwnLine → Type 0
IsOpen a lines = (k : ℕ) × (lines ≡ own_line (Checkout a) (Issued k) ∷ [])

-- groups for the aims, in order
abbrev pub AreGroups : List Aim → List OwnLine → Type 0
AreGroups [] lines = lines ≡ []
AreGroups (a ∷ aims) lines =
    (first : List OwnLine) × (later : List OwnLine) × (lines ≡ first ++ later) × IsGroup a first × AreGroups aims later

-- Shares

-- the aims, of which the first has place i, whose places leave k when they are divided by n
abbrev pub share_from : ℕ → ℕ → ℕ → List Aim → List Aim
share_from i n k [] = []
share_from i n k (a ∷ aims) =
    if (i % n) == k then a ∷ share_from (i + 1) n k aims else share_from (i + 1) n k aims

-- the share of worker k of n: the aims at the places k, k + n and so on
abbrev pub share_of : ℕ → ℕ → List Aim → List Aim
share_of n k aims = share_from 0 n k aims

-- Seats

-- the seat after a call that added a line
abbrev pub with_line : SeatView → Call → Reply → SeatView
with_line s call reply = record {
  number = s.number;
  lines = s.lines ++ own_line call reply ∷ [];
  out = out_after call reply s.out;
}

-- a ticket of the seat's was ended, by one call
pub record Closes (k : ℕ) (a : Aim) (old new : SeatView) : Type 0 where
  pub call : Call
  pub reply : Reply
  pub ends : EndsTicket k a call
  pub seat : new ≡ with_line old call reply

-- the seat has these lines more
pub record Adds (old new : SeatView) (more : List OwnLine) : Type 0 where
  pub number : new.number ≡ old.number
  pub lines : new.lines ≡ old.lines ++ more

-- an aim was attended to, and the worker goes on
pub record Attended (a : Aim) (old new : SeatView) : Type 0 where
  pub lines : List OwnLine
  pub group : IsGroup a lines
  pub adds : Adds old new lines

-- an aim was attended to, and the worker ends: its ticket was nowhere out
pub record Strayed (a : Aim) (old new : SeatView) : Type 0 where
  pub lines : List OwnLine
  pub opened : IsOpen a lines
  pub adds : Adds old new lines

-- groups for these aims
pub record GainedGroups (aims : List Aim) (old new : SeatView) : Type 0 where
  pub lines : List OwnLine
  pub groups : AreGroups aims lines
  pub adds : Adds old new lines

-- groups for some first aims of the share, and an open one for the next
pub record GainedSome (share : List Aim) (old new : SeatView) : Type 0 where
  pub done : List Aim
  pub aim : Aim
  pub rest : List Aim
  pub between : SeatView
  pub split : share ≡ done ++ aim ∷ rest
  pub groups : GainedGroups done old between
  pub last : Strayed aim between new

-- a run of groups for the aims of the share, of which the last may be open
abbrev pub Gained : List Aim → SeatView → SeatView → Type 0
Gained share old new = GainedGroups share old new ⊎ GainedSome share old new
