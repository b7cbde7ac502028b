-- What a line that is answered at a book changed, and what a play prints of it as text.
use Rattle.std.specs.Prelude.{◌≡◌, ℕ, Bool, true, false, List, ◌++◌, Option, Some, Result, Ok, Err}
use Rattle.reh_types.specs.declared.moves.Move.{Move}
use Rattle.reh_types.specs.declared.moves.Move.TheVariants.{Do, Post, Undo, Redo, Look}
use Rattle.reh_types.specs.declared.moves.Reply.TheVariants.{Done}
use Rattle.reh_model.specs.Cluster.{Cluster}
use Rattle.reh_model.specs.Places.{Change, IsDelta}
use Rattle.reh_model.specs.Session.{state_of}
use Rattle.reh_desk.specs.Kept.{Kept, Called}
use Rattle.reh_commands.specs.declared.commands.Command.{Command}
use Rattle.reh_commands.specs.declared.commands.Command.TheVariants as command
use Rattle.reh_commands.specs.declared.commands.LineFault.{LineFault}
use Rattle.reh_commands.specs.Answers.{asked, numbered}
use Rattle.reh_changes.specs.Changes.{all_lines}
use Rattle.reh_play.specs.declared.answers.LineAnswer.{LineAnswer}
use Rattle.reh_play.specs.declared.answers.LineAnswer.TheVariants as line_answer
use Rattle.reh_play.specs.Players.{Printing, Player, IsAnswered, answer_text}

-- The lines are those of the record that leads back from the state now to the one before: it has one change for each
-- place in which they differ, with what was there before. There is one such record.
abbrev pub AreChanges : Cluster → Cluster → List ℕ → Type 0
AreChanges before now lines = (changes : List Change) × IsDelta now before changes × (lines ≡ all_lines now changes)

-- the state of a book
abbrev pub state_in : Kept → Cluster
state_in k = state_of k.book.session

abbrev pub shown_at : Kept → Option Cluster
shown_at k = Some (state_in k)

-- This is the record of what a line changed that has this answer and left this book, wherever it came from.
abbrev pub IsMadeBy : List (List ℕ) → Kept → List ℕ → LineAnswer → List Change → Type 0
IsMadeBy names after line answer changes =
    (x y : Player Kept) (q : Result Command LineFault) → asked names line ≡ Some q → y.counter ≡ after
    → IsAnswered Called shown_at x q answer y → IsDelta (state_in after) (state_in x.counter) changes

-- its answer, and then what it changed
abbrev pub answers_and_changes : Printing Kept
answers_and_changes names before n asked answer after text =
    (lines : List ℕ) × (text ≡ numbered n (answer_text names (shown_at after) answer) ++ lines)
    × AreChanges (state_in before) (state_in after) lines

-- whether a line's call was done, and nothing else changes a state
abbrev pub is_done : LineAnswer → Bool
is_done (line_answer.Said Done) = true
is_done answer = false

-- whether a line asks for an undo
abbrev pub is_undo : Move → Bool
is_undo (Do event) = false
is_undo (Post content) = false
is_undo Undo = true
is_undo Redo = false
is_undo Look = false

abbrev pub asks_undo : Option (Result Command LineFault) → Bool
asks_undo (Some (Ok (command.Make move))) = is_undo move
asks_undo asked = false
