-- How a plan's text and its session grow together.
use Rattle.std.proofs.Common.{◌≡◌, ℕ, ◌+◌, ◌≤◌, false, List, [], ◌∷◌, ◌++◌, length, sym, ap, ◌∙◌, subst, arith, None, Some, length-append}
use Rattle.std.specs.Prelude.{Ok}
use Rattle.reh_types.specs.declared.limits.TheConstants.{MAX_SCRIPT_BYTES}
use Rattle.reh_types.specs.declared.moves.Event.{Event}
use Rattle.reh_types.specs.declared.moves.Move.TheVariants.{Do}
use Rattle.reh_types.specs.declared.moves.Reply.TheVariants.{Done}
use Rattle.reh_model.specs.Cluster.{Cluster}
use Rattle.reh_model.specs.Session.{replay, Session, state_of, with_event, Performs}
use Rattle.reh_commands.specs.Answers.{asked}
use Rattle.reh_lines.specs.Lines.{lines_of}
use Rattle.reh_commands.specs.declared.commands.Command.TheVariants.{Make}
use Rattle.reh_plan.specs.Plans.{has_lf, Asks, Draft, draft_of, IsDraft, IsMade}
use Rattle.reh_plan.proofs.PlanLaws.{grown_lines, grown_ends, names_replay, Asks-event, Asks-none, performed, state_after}

grown_few : (text line : List ℕ) → length text + (length line + 1) ≤ MAX_SCRIPT_BYTES → length (text ++ (line ++ 10 ∷ [])) ≤ MAX_SCRIPT_BYTES
grown_few text line room =
    let e : length (text ++ (line ++ 10 ∷ [])) ≡ length text + length (line ++ 10 ∷ []) = length-append text (line ++ 10 ∷ []) in
    let f : length (line ++ 10 ∷ []) ≡ length line + 1 = length-append line (10 ∷ []) in
    omega (arith, room, e, f)

-- by a line that asks for an event, which is done
pub IsDraft-event : (m n : Session) (s : Cluster) (text new line : List ℕ) (event : Event) → IsDraft m text
    → replay m.opening m.done ≡ Some s → length text + (length line + 1) ≤ MAX_SCRIPT_BYTES → has_lf line ≡ false
    → asked s.names line ≡ Some (Ok (Make (Do event))) → new ≡ text ++ (line ++ 10 ∷ []) → Performs m (Do event) Done n
    → IsDraft n new
IsDraft-event m n s text new line event draft now room none said is done =
    let same : s.names ≡ m.opening.names = names_replay m.done m.opening s now in
    let grown : IsDraft (with_event m event) (text ++ (line ++ 10 ∷ [])) = record {
      ends = grown_ends text line;
      few = grown_few text line room;
      asks =
          subst (λ (ls : List (List ℕ)). Asks m.opening.names ls (m.done ++ event ∷ [])) (sym (grown_lines text line draft.ends none))
          (Asks-event m.opening.names (lines_of text) m.done line event draft.asks
          (ap (λ (ns : List (List ℕ)). asked ns line) (sym same) ∙ said));
    } in
    subst (λ (x : Session). IsDraft x new) (sym (performed m n event done).1)
    (subst (λ (t : List ℕ). IsDraft (with_event m event) t) (sym is) grown)

pub made_by : (m n : Session) (s : Cluster) (d : Draft) (text new line : List ℕ) (event : Event) → IsDraft m text
    → draft_of m text ≡ d → replay m.opening m.done ≡ Some s → has_lf line ≡ false
    → asked s.names line ≡ Some (Ok (Make (Do event))) → new ≡ text ++ (line ++ 10 ∷ []) → Performs m (Do event) Done n
    → IsMade d event (draft_of n new)
made_by m n s d text new line event draft view now none said is done =
    let p = performed m n event done in
    let same : s.names ≡ m.opening.names = names_replay m.done m.opening s now in
    let made : IsMade (draft_of m text) event (draft_of n new) = record {
      opening = ap (λ (x : Session). x.opening) p.1;
      accepted = p.0;
      state = ap state_of p.1 ∙ state_after m s event now p.0;
      events = ap (λ (x : Session). x.done) p.1;
      lines = (
        line,
        ap (λ (ns : List (List ℕ)). asked ns line) (sym same) ∙ said,
        ap lines_of is ∙ grown_lines text line draft.ends none,
      );
    } in
    subst (λ (x : Draft). IsMade x event (draft_of n new)) view made

-- by a comment
pub IsDraft-none : (m : Session) (s : Cluster) (text new line : List ℕ) → IsDraft m text
    → replay m.opening m.done ≡ Some s → length text + (length line + 1) ≤ MAX_SCRIPT_BYTES → has_lf line ≡ false
    → asked s.names line ≡ None → new ≡ text ++ (line ++ 10 ∷ []) → IsDraft m new
IsDraft-none m s text new line draft now room none said is =
    let same : s.names ≡ m.opening.names = names_replay m.done m.opening s now in
    let grown : IsDraft m (text ++ (line ++ 10 ∷ [])) = record {
      ends = grown_ends text line;
      few = grown_few text line room;
      asks =
          subst (λ (ls : List (List ℕ)). Asks m.opening.names ls m.done) (sym (grown_lines text line draft.ends none))
          (Asks-none m.opening.names (lines_of text) m.done line draft.asks
          (ap (λ (ns : List (List ℕ)). asked ns line) (sym same) ∙ said));
    } in
    subst (λ (t : List ℕ). IsDraft m t) (sym is) grown

pub remarked_by : (m : Session) (d : Draft) (text new line : List ℕ) → IsDraft m text → draft_of m text ≡ d
    → has_lf line ≡ false → new ≡ text ++ (line ++ 10 ∷ [])
    → draft_of m new ≡ record d { lines = d.lines ++ line ∷ [] }
remarked_by m d text new line draft view none is =
    let more : lines_of new ≡ lines_of text ++ line ∷ [] = ap lines_of is ∙ grown_lines text line draft.ends none in
    ap (λ (ls : List (List ℕ)). record (draft_of m text) { lines = ls }) more
    ∙ ap (λ (x : Draft). record x { lines = x.lines ++ line ∷ [] }) view
