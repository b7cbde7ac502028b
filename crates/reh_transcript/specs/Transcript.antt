-- What a script prints that one seat of a book plays, with a hand of findings, and where it leaves the book.
use Rattle.std.specs.Prelude.{ℕ, ◌+◌, List, [], ◌∷◌, ◌++◌, Option, None, Some, Result, Ok, Err}
use Rattle.reh_types.specs.declared.calls.Call.{Call}
use Rattle.reh_model.specs.Book.{Book, answer_to, book_after}
use Rattle.reh_model.specs.Session.{state_of}
use Rattle.reh_desk.specs.Numbered.{Numbered}
use Rattle.reh_commands.specs.declared.commands.Command.{Command}
use Rattle.reh_commands.specs.declared.commands.LineFault.{LineFault}
use Rattle.reh_commands.specs.Answers.{asked, numbered, reply_answer, fault_answer, own_answer}
use Rattle.reh_transcript.specs.Hand.{call_of, hand_after, discard_of}

-- a book, and the hand of the seat that plays there
pub record BookPlayer : Type 0 where
  pub book : Book
  pub hand : List Numbered

-- before the first line
abbrev pub starting : Book → BookPlayer
starting b = record { book = b; hand = [] }

-- a call, after its reply, of a command
abbrev pub called : BookPlayer → ℕ → Command → Call → BookPlayer
called p seat command call =
    let reply = answer_to p.book seat call in
    let hand = hand_after (state_of p.book.session) command reply p.hand in
    record { book = book_after p.book seat call reply; hand = hand }

-- the answer to a command that makes this call, or none, and the player after it
abbrev pub answer_by : List (List ℕ) → ℕ → BookPlayer → Command → Option Call → List ℕ
answer_by names seat p command None = own_answer names (Some (state_of p.book.session)) command
answer_by names seat p command (Some call) = reply_answer names (answer_to p.book seat call)

abbrev pub after_by : ℕ → BookPlayer → Command → Option Call → BookPlayer
after_by seat p command None = p
after_by seat p command (Some call) = called p seat command call

-- the answer to the n-th line, if it has one
abbrev pub answer_of : List (List ℕ) → ℕ → BookPlayer → ℕ → Option (Result Command LineFault) → List ℕ
answer_of names seat p n None = []
answer_of names seat p n (Some (Ok command)) = numbered n (answer_by names seat p command (call_of command p.hand))
answer_of names seat p n (Some (Err fault)) = numbered n (fault_answer fault)

abbrev pub line_answer : List (List ℕ) → ℕ → BookPlayer → ℕ → List ℕ → List ℕ
line_answer names seat p n line = answer_of names seat p n (asked names line)

-- the player after a line: a command makes its call, and anything else leaves it
abbrev pub after_command : ℕ → BookPlayer → Option (Result Command LineFault) → BookPlayer
after_command seat p None = p
after_command seat p (Some (Ok command)) = after_by seat p command (call_of command p.hand)
after_command seat p (Some (Err fault)) = p

abbrev pub after_line : List (List ℕ) → ℕ → BookPlayer → List ℕ → BookPlayer
after_line names seat p line = after_command seat p (asked names line)

-- the answers to lines, of which the first is the n-th
abbrev pub transcript : List (List ℕ) → ℕ → BookPlayer → ℕ → List (List ℕ) → List ℕ
transcript names seat p n [] = []
transcript names seat p n (line ∷ lines) =
    line_answer names seat p n line ++ transcript names seat (after_line names seat p line) (n + 1) lines

-- the player after lines
abbrev pub after_lines : List (List ℕ) → ℕ → BookPlayer → List (List ℕ) → BookPlayer
after_lines names seat p [] = p
after_lines names seat p (line ∷ lines) = after_lines names seat (after_line names seat p line) lines

-- the book after a hand is given back, the oldest first
abbrev pub given_back : ℕ → Book → List Numbered → Book
given_back seat b [] = b
given_back seat b (finding ∷ hand) =
    let call = discard_of finding in
    given_back seat (book_after b seat call (answer_to b seat call)) hand

-- where a player ends: what is left in the hand is given back
abbrev pub end_of : ℕ → BookPlayer → Book
end_of seat p = given_back seat p.book p.hand
