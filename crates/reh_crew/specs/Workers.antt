-- What a worker does, call by call, at any counter and by any scanner.
use Rattle.std.specs.Prelude.{◌≡◌, ◌⊎◌, ℕ, Bool, true, false, IsTrue, List, [], ◌∷◌}
use Rattle.reh_types.specs.declared.calls.Call.{Call}
use Rattle.reh_types.specs.declared.calls.Call.TheVariants.{Checkout, Spend, Discard}
use Rattle.reh_types.specs.declared.moves.Reply.{Reply}
use Rattle.reh_types.specs.declared.moves.Reply.TheVariants.{Issued, Discarded, Refused}
use Rattle.reh_types.specs.declared.names.Aim.{Aim}
use Rattle.reh_types.specs.declared.refusals.Refusal.{Refusal}
use Rattle.reh_types.specs.declared.refusals.Refusal.TheVariants.{NotOut}
use Rattle.reh_model.specs.Book.{is_written}
use Rattle.reh_desk.specs.Numbered.{Numbered}
use Rattle.reh_desk.specs.Replies.{refused_by}
use Rattle.reh_desk.specs.Seats.{SeatView, gained}
use Rattle.reh_desk.specs.Unspent.{number_of, aim_of}
use Rattle.reh_desk.specs.declared.books.SpendCause.{SpendCause}
use Rattle.reh_desk.specs.declared.tickets.Unspent.{Unspent}
use Rattle.reh_desk.specs.declared.tickets.Unspent.TheVariants.{Unscanned, Scanned}

-- Scans and calls

-- what a scan of a ticket may give
abbrev pub Scanning : Type 1
Scanning = Numbered → Unspent → Type 0

-- it gives what was found with the ticket, or the ticket again
abbrev pub IsScanOf : Numbered → Unspent → Type 0
IsScanOf ticket (Unscanned back) = back ≡ ticket
IsScanOf ticket (Scanned finding) = finding ≡ ticket

-- what a call of a seat may leave at a counter
abbrev pub Going : Type 0 → Type 1
Going S = S → ℕ → Call → Reply → S → Type 0

-- a counter, and a seat that calls there
pub record Seated (S : Type 0) : Type 0 where
  pub counter : S
  pub seat : SeatView

abbrev pub seated : {S : Type 0} → S → SeatView → Seated S
seated {S} counter seat = record { counter = counter; seat = seat }

-- A call of the seat has this reply, and leads from x to y: as the counter goes, with the line that the seat gains.
pub record Calls {S : Type 0} (go : Going S) (x : Seated S) (call : Call) (reply : Reply) (y : Seated S) : Type 0 where
  pub goes : go x.counter x.seat.number call reply y.counter
  pub seat : y.seat ≡ gained x.seat call reply

-- What a worker does. Each says whether the worker goes on after it.

-- A ticket, or what was found with it, is given back. The worker goes on, unless its ticket is nowhere out.
abbrev pub GivesBack : {S : Type 0} → Going S → Unspent → Bool → Seated S → Seated S → Type 0
GivesBack {S} go unspent true x y = Calls go x (Discard (number_of unspent) (aim_of unspent)) Discarded y
GivesBack {S} go unspent false x y = Calls go x (Discard (number_of unspent) (aim_of unspent)) (Refused NotOut) y

-- What was found is spent; or its spend is a fault, and it is given back.
abbrev pub Spends : {S : Type 0} → Going S → Numbered → Bool → Seated S → Seated S → Type 0
Spends {S} go finding goes_on x y =
    ((reply : Reply) × IsTrue (is_written reply) × (goes_on ≡ true)
    × Calls go x (Spend finding.number finding.content) reply y)
    ⊎ ((cause : SpendCause) × (mid : Seated S)
    × Calls go x (Spend finding.number finding.content) (refused_by cause) mid
    × GivesBack go (Scanned finding) goes_on mid y)

-- What was found is spent, and a ticket that was not scanned is given back.
abbrev pub Finishes : {S : Type 0} → Going S → Unspent → Bool → Seated S → Seated S → Type 0
Finishes {S} go (Unscanned ticket) goes_on x y = GivesBack go (Unscanned ticket) goes_on x y
Finishes {S} go (Scanned finding) goes_on x y = Spends go finding goes_on x y

-- A ticket for the aim is issued and scanned, and what the scan gave is finished with.
pub record Serves {S : Type 0} (go : Going S) (scans : Scanning) (a : Aim) (goes_on : Bool) (x y : Seated S) : Type 0 where
  pub ticket : Numbered
  pub aim : ticket.content.aim ≡ a
  pub mid : Seated S
  pub issued : Calls go x (Checkout a) (Issued ticket.number) mid
  pub found : Unspent
  pub scanned : scans ticket found
  pub is_scan : IsScanOf ticket found
  pub finished : Finishes go found goes_on mid y

-- The aim is attended to: its checkout is refused, and the worker goes on; or it gets a ticket.
abbrev pub Attends : {S : Type 0} → Going S → Scanning → Aim → Bool → Seated S → Seated S → Type 0
Attends {S} go scans a goes_on x y =
    ((refusal : Refusal) × (goes_on ≡ true) × Calls go x (Checkout a) (Refused refusal) y)
    ⊎ Serves go scans a goes_on x y

-- The aims are attended to, in order: all of them, or up to one after which the worker does not go on.
abbrev pub Works : {S : Type 0} → Going S → Scanning → List Aim → Seated S → Seated S → Type 0
Works {S} go scans [] x y = y ≡ x
Works {S} go scans (a ∷ aims) x y =
    Attends go scans a false x y
    ⊎ ((mid : Seated S) × Attends go scans a true x mid × Works go scans aims mid y)
