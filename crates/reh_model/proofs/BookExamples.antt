-- Worked runs of books: tickets of seats, what is spent when the fragment has changed, and full tapes.
use Rattle.std.specs.Prelude.{◌≡◌, refl, ℕ, codes, List, [], ◌∷◌, ◌++◌, map, get_or, drop, Some, None}
use Rattle.std.proofs.Common.{sym, ap, ◌∙◌}
use Rattle.std.specs.Option.{option_map}
use Rattle.reh_types.specs.declared.calls.Call.{Call}
use Rattle.reh_types.specs.declared.calls.Call.TheVariants.{Ask, Checkout, Spend, Discard}
use Rattle.reh_types.specs.declared.contents.Content.{Content}
use Rattle.reh_types.specs.declared.moves.Event.TheVariants.{Lose, Join, Audit, Acquire, Release, Copy, Swap}
use Rattle.reh_types.specs.declared.moves.Move.{Move}
use Rattle.reh_types.specs.declared.moves.Move.TheVariants.{Do, Undo, Redo, Look}
use Rattle.reh_types.specs.declared.moves.Reply.{Reply}
use Rattle.reh_types.specs.declared.moves.Reply.TheVariants.{Done, Clock, Issued, Discarded, Refused}
use Rattle.reh_types.specs.declared.names.LedgerState.TheVariants.{Closed}
use Rattle.reh_types.specs.declared.refusals.Refusal.TheVariants.{NotOwner, Stale, SourceGone, NotOut, TapeFull, NoMemory}
use Rattle.reh_types.specs.Sets.{contains, insert, retain, remove, empty, from_list, union, items, is_subset, is_empty, len}
use Rattle.reh_model.specs.Cluster.{Cluster, ledger_at, with_held, with_ledgers}
use Rattle.reh_model.specs.Scan.{scan}
use Rattle.reh_model.specs.Session.{opened_session, state_of}
use Rattle.reh_model.specs.Book.{Book, new_book, ticket, answer_to, book_after}
use Rattle.reh_model.proofs.Examples.{clear_cluster}
use Rattle.reh_model.proofs.TaskExamples.{five_bookies, row}
use Rattle.reh_model.proofs.CopyExamples.{loss_and_lock, entries_of}
use Rattle.reh_model.proofs.ScanExamples.{aim_at, aim, seen}

-- the replies to calls of seats in order
abbrev answers : Book → List (ℕ × Call) → List Reply
answers b [] = []
answers b ((seat, call) ∷ calls) = answer_to b seat call ∷ answers (book_after b seat call (answer_to b seat call)) calls

-- the book after them
abbrev played : Book → List (ℕ × Call) → Book
played b [] = b
played b ((seat, call) ∷ calls) = played (book_after b seat call (answer_to b seat call)) calls

-- moves that the first seat asks for
abbrev asks : List Move → List (ℕ × Call)
asks moves = map (λ move. (0, Ask move)) moves

-- a book on the five bookies, where the second one is lost, and the fourth one's worker holds the closed ledger's lock
abbrev book : Book
book = played (new_book (opened_session five_bookies)) (asks (loss_and_lock 7))

-- a ticket for the lost bookie's place, and what was seen with it
abbrev checkout : ℕ × Call
checkout = (0, Checkout aim)

abbrev spend : ℕ → ℕ × Call
spend number = (0, Spend number seen)

-- Posts of what has changed

-- a source is lost, and joins again; then the post is made, undone and made again
abbrev lost_source : List (ℕ × Call)
lost_source = checkout ∷ (0, Ask (Do (Lose 2))) ∷ spend 1 ∷ (0, Ask (Do (Join 2))) ∷ checkout ∷ spend 2 ∷ (0, Ask Undo) ∷ (0, Ask Redo) ∷ []

pub source_lost_on_the_way : answers book lost_source ≡ Issued 1 ∷ Done ∷ Refused (SourceGone 1) ∷ Done ∷ Issued 2 ∷ Done ∷ Done ∷ Done ∷ []
unfolding contains insert retain remove empty from_list union items is_subset is_empty len
source_lost_on_the_way = refl

-- at the second ticket the scan finds what it found at the first
pub seen_again : scan (state_of (played book (checkout ∷ (0, Ask (Do (Lose 2))) ∷ spend 1 ∷ (0, Ask (Do (Join 2))) ∷ [])).session) aim ≡ Some seen
unfolding contains insert retain remove empty from_list union items is_subset is_empty len
seen_again = refl

-- the worker's bookie holds the entries then
pub held_at_last : entries_of (state_of (played book lost_source).session) 3 7 ≡ 0 ∷ 1 ∷ 3 ∷ 4 ∷ []
unfolding contains insert retain remove empty from_list union items is_subset is_empty len
held_at_last = refl

-- another one has taken the place
abbrev overtaken : List (ℕ × Call)
overtaken = checkout ∷ (0, Ask (Do (Copy 3 7 0 1 0))) ∷ (0, Ask (Do (Swap 3 7 0 1 0))) ∷ spend 1 ∷ []

pub place_is_taken : answers book overtaken ≡ Issued 1 ∷ Done ∷ Done ∷ Refused (Stale 1) ∷ []
unfolding contains insert retain remove empty from_list union items is_subset is_empty len
place_is_taken = refl

-- a ticket that was refused is not out any more
pub none_out : (played book overtaken).out ≡ []
unfolding contains insert retain remove empty from_list union items is_subset is_empty len
none_out = refl

-- Another history at the same version

-- six registered bookies, and a closed ledger whose three members hold all entries
abbrev six_bookies : Cluster
six_bookies =
    let started = clear_cluster (codes "b1:3181" ∷ codes "b2:3181" ∷ codes "b3:3181" ∷ codes "b4:3181" ∷ codes "b5:3181" ∷ codes "b6:3181" ∷ []) in
    with_held (with_ledgers started (record { id = 7; metadata = record { size = 3; write_quorum = 3; ack_quorum = 2; state = Closed 6; version = 0; fragments = record { first = 0; ensemble = 0 ∷ 1 ∷ 2 ∷ [] } ∷ [] }; words = 1; task = None; lock = None } ∷ []))
    (from_list (row 0 7 (0 ∷ 1 ∷ 2 ∷ 3 ∷ 4 ∷ 5 ∷ []) ++ row 1 7 (0 ∷ 1 ∷ 2 ∷ 3 ∷ 4 ∷ 5 ∷ []) ++ row 2 7 (0 ∷ 1 ∷ 2 ∷ 3 ∷ 4 ∷ 5 ∷ [])))

-- a worker's bookie takes the second place, and the fifth bookie's worker locks the ledger
abbrev replace : ℕ → List Move
replace worker = Do (Acquire worker 7) ∷ Do (Copy worker 7 0 1 0) ∷ Do (Swap worker 7 0 1 0) ∷ Do (Release worker 7) ∷ Do (Acquire 4 7) ∷ []

-- the second and the third bookie are lost, and the fourth one takes a place
abbrev first_history : List (ℕ × Call)
first_history = asks (Do (Lose 1) ∷ Do (Lose 2) ∷ Do Audit ∷ replace 3)

-- which is undone up to the swap, and the sixth one takes it
abbrev second_history : List (ℕ × Call)
second_history = asks (Undo ∷ Undo ∷ Undo ∷ Do (Release 3 7) ∷ replace 5)

-- what the fifth bookie's worker sees for the third place in between
abbrev seen_between : Content
seen_between = record { aim = aim_at 4 2; version = 1; first = 0; stop = 6; ensemble = 0 ∷ 3 ∷ 2 ∷ []; sources = Some 0 ∷ Some 3 ∷ Some 0 ∷ Some 0 ∷ Some 3 ∷ Some 0 ∷ [] }

pub scan_between : scan (state_of (played (new_book (opened_session six_bookies)) first_history).session) (aim_at 4 2) ≡ Some seen_between
unfolding contains insert retain remove empty from_list union items is_subset is_empty len
scan_between = refl

-- the post is refused, though the version is the one that was seen
pub same_version_other_ensemble : answers (new_book (opened_session six_bookies)) (first_history ++ (0, Checkout (aim_at 4 2)) ∷ second_history ++ (0, Spend 1 seen_between) ∷ [])
    ≡ Done ∷ Done ∷ Done ∷ Done ∷ Done ∷ Done ∷ Done ∷ Done ∷ Issued 1 ∷ Done ∷ Done ∷ Done ∷ Done ∷ Done ∷ Done ∷ Done ∷ Done ∷ Done ∷ Refused (Stale 1) ∷ []
unfolding contains insert retain remove empty from_list union items is_subset is_empty len
same_version_other_ensemble = refl

pub ensemble_of_the_second : option_map (λ g. g.metadata) (ledger_at (state_of (played (new_book (opened_session six_bookies)) (first_history ++ (0, Checkout (aim_at 4 2)) ∷ second_history)).session) 7)
    ≡ Some (record { size = 3; write_quorum = 3; ack_quorum = 2; state = Closed 6; version = 1; fragments = record { first = 0; ensemble = 0 ∷ 5 ∷ 2 ∷ [] } ∷ [] })
unfolding contains insert retain remove empty from_list union items is_subset is_empty len
ensemble_of_the_second = refl

-- Tickets

-- a ticket that is refused takes no number
pub no_number_for_a_refusal : answers book ((0, Checkout (record aim { ledger = 9 })) ∷ checkout ∷ (1, Checkout aim) ∷ []) ≡ Refused NotOwner ∷ Issued 1 ∷ Issued 2 ∷ []
unfolding contains insert retain remove empty from_list union items is_subset is_empty len
no_number_for_a_refusal = refl

-- each that is issued is out, and is its seat's
pub tickets_out : (played book (checkout ∷ (1, Checkout aim) ∷ [])).out ≡ ticket 0 1 aim ∷ ticket 1 2 aim ∷ []
unfolding contains insert retain remove empty from_list union items is_subset is_empty len
tickets_out = refl

-- a ticket is out at its seat, by its number and its aim
abbrev strange : List (ℕ × Call)
strange = (1, Spend 1 seen) ∷ spend 2 ∷ (0, Spend 1 (record seen { aim = aim_at 3 2 })) ∷ (1, Discard 1 aim) ∷ (0, Discard 2 aim) ∷ (0, Discard 1 (aim_at 3 2)) ∷ []

pub not_out_elsewhere : answers (played book (checkout ∷ [])) strange ≡ Refused NotOut ∷ Refused NotOut ∷ Refused NotOut ∷ Refused NotOut ∷ Refused NotOut ∷ Refused NotOut ∷ []
unfolding contains insert retain remove empty from_list union items is_subset is_empty len
not_out_elsewhere = refl

-- and nothing changes by what is not out
unchanged : (b : Book) (calls : List (ℕ × Call)) → answers b calls ≡ map (λ call. Refused NotOut) calls → played b calls ≡ b
unchanged b [] are = refl
unchanged b ((seat, call) ∷ calls) are =
    let first : answer_to b seat call ≡ Refused NotOut = ap (λ (rs : List Reply). get_or rs 0 Done) are in
    ap (λ (r : Reply). played (book_after b seat call r) calls) first
    ∙ unchanged b calls (sym (ap (λ (r : Reply). answers (book_after b seat call r) calls) first) ∙ ap (λ (rs : List Reply). drop 1 rs) are)

pub unchanged_elsewhere : played (played book (checkout ∷ [])) strange ≡ played book (checkout ∷ [])
unchanged_elsewhere = unchanged (played book (checkout ∷ [])) strange not_out_elsewhere

-- a ticket is given back once, and not spent then
pub given_back : answers book (checkout ∷ (0, Discard 1 aim) ∷ (0, Discard 1 aim) ∷ spend 1 ∷ checkout ∷ []) ≡ Issued 1 ∷ Discarded ∷ Refused NotOut ∷ Refused NotOut ∷ Issued 2 ∷ []
unfolding contains insert retain remove empty from_list union items is_subset is_empty len
given_back = refl

-- it is no longer out then, and the others still are
pub out_without_it : (played book (checkout ∷ (1, Checkout aim) ∷ (0, Discard 1 aim) ∷ [])).out ≡ ticket 1 2 aim ∷ []
unfolding contains insert retain remove empty from_list union items is_subset is_empty len
out_without_it = refl

-- undo and redo leave tickets out
pub undone_below_a_ticket : answers book (checkout ∷ (0, Ask Undo) ∷ spend 1 ∷ (0, Ask Redo) ∷ checkout ∷ (0, Ask Undo) ∷ (0, Ask Redo) ∷ spend 2 ∷ [])
    ≡ Issued 1 ∷ Done ∷ Refused NotOwner ∷ Done ∷ Issued 2 ∷ Done ∷ Done ∷ Done ∷ []
unfolding contains insert retain remove empty from_list union items is_subset is_empty len
undone_below_a_ticket = refl

-- Tapes

-- each call adds a line, also one that is refused by the session
pub lines_of_calls : (played book (checkout ∷ (0, Ask (Do (Lose 1))) ∷ (1, Ask Look) ∷ spend 1 ∷ (0, Discard 1 aim) ∷ [])).lines ≡ 7
unfolding contains insert retain remove empty from_list union items is_subset is_empty len
lines_of_calls = refl

-- the book with so many lines
abbrev with_lines : ℕ → Book
with_lines lines = record book { lines = lines }

-- a ticket takes two lines, so at the last one it is refused, and the tape goes on
pub last_line : answers (with_lines 199_999) (checkout ∷ (0, Ask Look) ∷ (0, Ask Look) ∷ checkout ∷ []) ≡ Refused TapeFull ∷ Clock 0 ∷ Refused TapeFull ∷ Refused TapeFull ∷ []
unfolding contains insert retain remove empty from_list union items is_subset is_empty len
last_line = refl

-- the two last lines are a ticket's, and its post is the last one
pub reserved_line : answers (with_lines 199_998) (checkout ∷ (0, Ask Look) ∷ checkout ∷ spend 1 ∷ (0, Ask Look) ∷ []) ≡ Issued 1 ∷ Refused TapeFull ∷ Refused TapeFull ∷ Done ∷ Refused TapeFull ∷ []
unfolding contains insert retain remove empty from_list union items is_subset is_empty len
reserved_line = refl

pub lines_at_the_end : (played (with_lines 199_998) (checkout ∷ (0, Ask Look) ∷ checkout ∷ spend 1 ∷ (0, Ask Look) ∷ [])).lines ≡ 200_000
unfolding contains insert retain remove empty from_list union items is_subset is_empty len
lines_at_the_end = refl

-- a full tape comes before the session's refusals, and before those of an aim
pub full_tape_first : answers (with_lines 200_000) ((0, Ask Redo) ∷ (0, Ask (Do (Lose 1))) ∷ []) ++ answers (with_lines 199_999) ((0, Checkout (record aim { ledger = 9 })) ∷ []) ≡ Refused TapeFull ∷ Refused TapeFull ∷ Refused TapeFull ∷ []
unfolding contains insert retain remove empty from_list union items is_subset is_empty len
full_tape_first = refl

-- a discard has its line too
pub discard_on_the_last_line : answers (with_lines 199_998) (checkout ∷ (0, Discard 1 aim) ∷ []) ≡ Issued 1 ∷ Discarded ∷ []
unfolding contains insert retain remove empty from_list union items is_subset is_empty len
discard_on_the_last_line = refl

-- each part of the aim is the ticket's
pub other_aims : answers (played book (checkout ∷ [])) ((0, Discard 1 (record aim { worker = 4 })) ∷ (0, Discard 1 (record aim { ledger = 9 })) ∷ (0, Discard 1 (record aim { fragment = 1 })) ∷ []) ≡ Refused NotOut ∷ Refused NotOut ∷ Refused NotOut ∷ []
unfolding contains insert retain remove empty from_list union items is_subset is_empty len
other_aims = refl

-- a spend leaves the other tickets out
pub out_after_a_spend : (played book (checkout ∷ (1, Checkout aim) ∷ spend 1 ∷ [])).out ≡ ticket 1 2 aim ∷ []
unfolding contains insert retain remove empty from_list union items is_subset is_empty len
out_after_a_spend = refl

-- running out of memory adds no line
pub no_memory_no_line : (book_after (played book (checkout ∷ [])) 0 (Spend 1 seen) (Refused NoMemory)).lines ≡ 4
unfolding contains insert retain remove empty from_list union items is_subset is_empty len
no_memory_no_line = refl
