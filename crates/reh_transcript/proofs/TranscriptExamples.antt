-- Worked scripts and inputs: the definitions, computed.
use Rattle.std.specs.Prelude.{◌≡◌, refl, ℕ, List, [], ◌∷◌, ◌++◌, codes, map, replicate}
use Rattle.std.specs.Fmt.{digits}
use Rattle.reh_types.specs.Sets.{contains, insert, retain, remove, empty, from_list, union, items, is_subset, is_empty, len}
use Rattle.reh_model.specs.Book.{Book, new_book}
use Rattle.reh_model.specs.Cluster.{Cluster}
use Rattle.reh_model.specs.Session.{opened_session}
use Rattle.reh_model.proofs.Examples.{two_bookies}
use Rattle.reh_model.proofs.TaskExamples.{five_bookies}
use Rattle.reh_lines.specs.Lines.{cut_of, lines_of}
use Rattle.reh_commands.specs.Script.{verbs}
use Rattle.reh_commands.specs.Texts.{text_of}
use Rattle.reh_types.specs.declared.calls.TicketOut.{TicketOut}
use Rattle.reh_types.specs.declared.moves.Reply.TheVariants.{Refused}
use Rattle.reh_types.specs.declared.refusals.Refusal.TheVariants.{NotOut}
use Rattle.reh_desk.specs.Numbered.{Numbered}
use Rattle.reh_commands.specs.declared.commands.Command.TheVariants.{Spend, Discard}
use Rattle.reh_transcript.specs.Hand.{hand_after}
use Rattle.reh_transcript.specs.Transcript.{BookPlayer, starting, after_lines, end_of, transcript}

-- what is printed for lines at a new book on this state
abbrev printed : Cluster → List (List ℕ) → List ℕ
printed s lines = transcript s.names 0 (starting (new_book (opened_session s))) 1 (lines_of (text_of lines))

-- where they leave the book
abbrev played : Cluster → List (List ℕ) → Book
played s lines = end_of 0 (after_lines s.names 0 (starting (new_book (opened_session s))) (lines_of (text_of lines)))

-- events, undos and a redo, and the report of what survives
pub undo_and_redo_printed : printed two_bookies (codes "lose b1:3181" ∷ codes "tick 2" ∷ codes "undo" ∷ codes "undo" ∷ codes "undo" ∷ codes "redo" ∷ codes "report" ∷ [])
    ≡ text_of (codes "line 1: ok" ∷ codes "line 2: ok" ∷ codes "line 3: ok" ∷ codes "line 4: ok" ∷ codes "line 5: refused 33 NothingToUndo" ∷ codes "line 6: ok" ∷ codes "line 7: report"
    ∷ codes "clock 0 grace 3" ∷ codes "bookie b1:3181 down 0" ∷ codes "bookie b2:3181 up 0" ∷ [])
unfolding contains insert retain remove empty from_list union items is_subset is_empty len digits verbs
undo_and_redo_printed = refl

-- the second bookie is lost, and the fourth one's worker holds the closed ledger's lock
abbrev loss_and_lock : List (List ℕ)
loss_and_lock = codes "lose b2:3181" ∷ codes "audit" ∷ codes "acquire b4:3181 7" ∷ []

-- tickets for the lost bookie's place, so many
abbrev checkouts : ℕ → List (List ℕ)
checkouts count = replicate count (codes "checkout b4:3181 7 0 1")

-- an empty hand has nothing to spend or to give back
pub empty_hand_printed : printed two_bookies (codes "spend" ∷ codes "discard" ∷ []) ≡ text_of (codes "line 1: refused 40 HandEmpty" ∷ codes "line 2: refused 40 HandEmpty" ∷ [])
unfolding contains insert retain remove empty from_list union items is_subset is_empty len digits verbs
empty_hand_printed = refl

-- a hand holds 8 findings; where it is full the book is not asked, and no number is taken
pub full_hand_printed : printed five_bookies (loss_and_lock ++ checkouts 9 ++ codes "discard" ∷ checkouts 2)
    ≡ text_of (codes "line 1: ok" ∷ codes "line 2: ok" ∷ codes "line 3: ok" ∷ codes "line 4: ticket 1" ∷ codes "line 5: ticket 2" ∷ codes "line 6: ticket 3" ∷ codes "line 7: ticket 4" ∷ codes "line 8: ticket 5" ∷ codes "line 9: ticket 6"
    ∷ codes "line 10: ticket 7" ∷ codes "line 11: ticket 8" ∷ codes "line 12: refused 39 HandFull" ∷ codes "line 13: discarded" ∷ codes "line 14: ticket 9" ∷ codes "line 15: refused 39 HandFull" ∷ [])
unfolding contains insert retain remove empty from_list union items is_subset is_empty len digits verbs
full_hand_printed = refl

-- the oldest finding is posted; after a swap the other one is stale, and out of the hand too
pub findings_printed : printed five_bookies (loss_and_lock ++ checkouts 2 ++ codes "spend" ∷ codes "swap b4:3181 7 0 1 0" ∷ codes "spend" ∷ codes "spend" ∷ [])
    ≡ text_of (codes "line 1: ok" ∷ codes "line 2: ok" ∷ codes "line 3: ok" ∷ codes "line 4: ticket 1" ∷ codes "line 5: ticket 2" ∷ codes "line 6: ok" ∷ codes "line 7: ok" ∷ codes "line 8: refused 24 Stale 1" ∷ codes "line 9: refused 40 HandEmpty" ∷ [])
unfolding contains insert retain remove empty from_list union items is_subset is_empty len digits verbs
findings_printed = refl

-- the player after lines at a new book on this state, before its hand is given back
abbrev left : Cluster → List (List ℕ) → BookPlayer
left s lines = after_lines s.names 0 (starting (new_book (opened_session s))) (lines_of (text_of lines))

-- the oldest finding is spent and given back first: of three tickets the last stays out, and in the hand
pub oldest_first : map (λ (t : TicketOut). t.number) (left five_bookies (loss_and_lock ++ checkouts 3 ++ codes "spend" ∷ codes "discard" ∷ [])).book.out ≡ 3 ∷ []
unfolding contains insert retain remove empty from_list union items is_subset is_empty len digits verbs
oldest_first = refl

pub newest_left : map (λ (finding : Numbered). finding.number) (left five_bookies (loss_and_lock ++ checkouts 3 ++ codes "spend" ∷ codes "discard" ∷ [])).hand ≡ 3 ∷ []
unfolding contains insert retain remove empty from_list union items is_subset is_empty len digits verbs
newest_left = refl

-- a finding whose ticket is not out stays the oldest of the hand, and leaves it where it was to be given back
pub not_out_stays : (s : Cluster) (finding : Numbered) → hand_after s Spend (Refused NotOut) (finding ∷ []) ≡ finding ∷ []
not_out_stays s finding = refl

pub not_out_forfeited : (s : Cluster) (finding : Numbered) → hand_after s Discard (Refused NotOut) (finding ∷ []) ≡ []
not_out_forfeited s finding = refl

-- what is left in the hand is given back at the end: its lines stand on the tape, and no ticket is out
pub hand_given_back : (played five_bookies (loss_and_lock ++ checkouts 3)).lines ≡ 9
unfolding contains insert retain remove empty from_list union items is_subset is_empty len digits verbs
hand_given_back = refl

pub none_out_at_the_end : (played five_bookies (loss_and_lock ++ checkouts 3)).out ≡ []
unfolding contains insert retain remove empty from_list union items is_subset is_empty len digits verbs
none_out_at_the_end = refl

-- the survey of what is down and lost
pub survey_printed : printed five_bookies (codes "lose b2:3181" ∷ codes "survey" ∷ []) ≡ text_of (codes "line 1: ok" ∷ codes "line 2: survey" ∷ codes "ledger 7 fragment 0 down 1 lost 0" ∷ codes "ledger 9 fragment 0 down 1 lost -" ∷ [])
unfolding contains insert retain remove empty from_list union items is_subset is_empty len digits verbs
survey_printed = refl

-- a checkout has four words; a line that asks for nothing leaves the hand
pub checkout_words_printed : printed five_bookies (codes "checkout b4:3181 7 0" ∷ codes "checkout b4:3181 7 0 1 0" ∷ codes "checkout b4:3181 7 0 x" ∷ codes "checkout nobody 7 0 1" ∷ codes "checkout b4:3181 7 0 1" ∷ codes "spend 1" ∷ codes "# spend" ∷ [])
    ≡ text_of (codes "line 1: bad words" ∷ codes "line 2: bad words" ∷ codes "line 3: bad words" ∷ codes "line 4: unknown name" ∷ codes "line 5: refused 8 NotOwner" ∷ codes "line 6: bad words" ∷ [])
unfolding contains insert retain remove empty from_list union items is_subset is_empty len digits verbs
checkout_words_printed = refl

-- the line `%` may end in CR LF; without it all is the picture, and as the first line it leaves an empty one
pub cut_at_percent : map cut_of ((codes "{}" ++ 10 ∷ 37 ∷ 13 ∷ 10 ∷ codes "clock") ∷ codes "{}" ∷ codes "%\nclock" ∷ (codes "{}" ++ 10 ∷ 37 ∷ 32 ∷ 10 ∷ []) ∷ [])
    ≡ record { picture = codes "{}"; script = codes "clock" } ∷ record { picture = codes "{}"; script = [] } ∷ record { picture = []; script = codes "clock" }
    ∷ record { picture = codes "{}" ++ 10 ∷ 37 ∷ 32 ∷ 10 ∷ []; script = [] } ∷ []
cut_at_percent = refl
