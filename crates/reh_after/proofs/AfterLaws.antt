-- One move and one line more are accepted.
use Rattle.std.proofs.Common.{◌≡◌, ◌≢◌, ◌∙◌, ◌==◌, ◌+◌, ◌++◌, ℕ, Bool, true, false, List, [], ◌∷◌, Option, None, Some, cond, ap, sym, subst, refl, arith, length, append_assoc, length-append, true≢false, inl, inr, rules}
use Rattle.std.specs.Prelude.{IfErr, IfOk, Result, Ok, Err, String, string_bytes}
use Rattle.std.specs.Result.{IsErrAnd}
use Rattle.std.specs.declared.alloc.Global.{Global}
use Rattle.std.proofs.lemmas.List.{append-nil}
use Rattle.std.proofs.lemmas.Option.{none-some, same_Some}
use Rattle.std.proofs.lemmas.Bool.Decides.{nat_tests}
use Rattle.std.specs.Option.{option_and_then}
use Rattle.reh_types.specs.declared.moves.Move.{Move}
use Rattle.reh_types.specs.declared.moves.Reply.{Reply}
use Rattle.reh_types.specs.declared.moves.Reply.TheVariants.{Refused}
use Rattle.reh_types.specs.declared.refusals.Refusal.TheVariants as refusal
use Rattle.reh_model.specs.Session.{Session, Performs, session_after}
use Rattle.reh_lines.specs.Lines.{lines_of}
use Rattle.reh_commands.specs.Answers.{asked}
use Rattle.reh_picture.specs.Listings.{located_listing}
use Rattle.reh_picture.specs.declared.places.LocatedFault.{LocatedFault}
use Rattle.reh_after.specs.After.{IsBegun, refused_by, after_asked, after_lines, after_move, after_reply, is_accepted}
use Rattle.reh_commands.specs.Texts.{reply_text}
use Rattle.reh_commands.specs.declared.commands.Command.TheVariants.{Make}
use Rattle.reh_after.specs.Faults.{AreAccepted, IsAfterFault, IsBeginFault, IsDoubtFault, IsEndFault, IsFaultAt, IsLineFault, IsRefused, IsRefusedAt, unaccepted_by, unheld_by, want_of}
use Rattle.reh_after.specs.declared.faults.AfterFault.{AfterFault}
use Rattle.reh_after.specs.declared.faults.AfterFault.TheVariants.{Unaccepted, Doubt, Unheld, Picture, NoMemory}
use Rattle.reh_after.specs.declared.pictures.Begun.{Begun}
use Rattle.reh_fields.specs.declared.faults.PictureFault.{PictureFault}
use Rattle.reh_fields.specs.declared.faults.PictureFault.TheVariants as picture_fault

pub accepted : (m : Session) (move : Move) (reply : Reply) (n : Session) → Performs m move reply n
    → is_accepted reply ≡ true → after_move m move ≡ Some n
accepted m move reply n (inl answers) passes =
    ap (λ (r : Reply). after_reply m move r) (sym answers.0)
    ∙ ap (λ (b : Bool). cond b (Some (session_after m move reply)) None) passes
    ∙ ap Some (sym answers.1)
accepted m move reply n (inr wants) passes = absurd (true≢false (sym passes ∙ ap is_accepted wants.1))

-- lines after some that are accepted
after_these : (names : List (List ℕ)) (before lines : List (List ℕ)) (m n : Session) → after_lines names m before ≡ Some n
    → after_lines names m (before ++ lines) ≡ after_lines names n lines
after_these names [] lines m n leads = ap (λ (k : Session). after_lines names k lines) (same_Some m n leads)
after_these names (line ∷ before) lines m n leads =
    elim (after_asked m (asked names line)) as (λ mid. option_and_then (λ k. after_lines names k before) mid ≡ Some n
    → option_and_then (λ k. after_lines names k (before ++ lines)) mid ≡ after_lines names n lines) [
      | None ↦ λ none. absurd (none-some n none)
      | Some k ↦ λ goes. after_these names before lines k n goes
    ] leads

-- before the first line
pub none_before : (names : List (List ℕ)) (m : Session) (lines : List (List ℕ)) → AreAccepted names m lines lines 0 m
none_before names m lines = record { before = []; split = refl; count = refl; leads = refl }

-- a line more
pub one_more : (names : List (List ℕ)) (m n k : Session) (lines left more : List (List ℕ)) (line : List ℕ) (number : ℕ)
    → AreAccepted names m lines left number n → left ≡ line ∷ more → after_asked n (asked names line) ≡ Some k
    → AreAccepted names m lines more (number + 1) k
one_more names m n k lines left more line number accepted is next = record {
  before = accepted.before ++ line ∷ [];
  split = accepted.split ∙ ap (λ ls. accepted.before ++ ls) is ∙ sym (append_assoc accepted.before (line ∷ []) more);
  count = omega (arith, accepted.count, length-append accepted.before (line ∷ []));
  leads = after_these names accepted.before (line ∷ []) m n accepted.leads
      ∙ ap (λ (o : Option Session). option_and_then (λ k. after_lines names k []) o) next;
}

-- none is left
pub all_accepted : (names : List (List ℕ)) (m n : Session) (lines left : List (List ℕ)) (number : ℕ)
    → AreAccepted names m lines left number n → left ≡ [] → after_lines names m lines ≡ Some n
all_accepted names m n lines left number accepted none =
    ap (after_lines names m) (accepted.split ∙ ap (λ ls. accepted.before ++ ls) none ∙ append-nil accepted.before)
    ∙ accepted.leads

-- the next isn't accepted
pub first_refused : (names : List (List ℕ)) (m n : Session) (lines left more : List (List ℕ)) (line : List ℕ) (number : ℕ)
    (fault : AfterFault) → AreAccepted names m lines left number n → left ≡ line ∷ more
    → IsFaultAt (number + 1) (IsRefusedAt names n (asked names line)) fault → IsLineFault names m lines fault
first_refused names m n lines left more line number (Unaccepted found) accepted is told = record {
  line = line;
  later = more;
  number = number;
  session = n;
  before = subst (λ ls. AreAccepted names m lines ls number n) is accepted;
  numbered = told.0;
  refused = told.1;
}
first_refused names m n lines left more line number fault accepted is told = told

pub none_left : (text : List ℕ) → (length text == 0) ≡ true → lines_of text ≡ []
none_left [] none = refl
none_left (b ∷ bs) none =
    let zero : length (b ∷ bs) ≡ 0 = grind (arith, nat_tests, none) in
    absurd (omega (arith, zero))

-- Faults

-- what is said, if the answer could be made
pub told : {E : Type 0} (number : ℕ) (said : List ℕ) (answer : Result (String Global) E) (fault : AfterFault)
    → fault ≡ unaccepted_by number answer → IfOk answer (λ text. string_bytes text ≡ said)
    → IsFaultAt number (λ a. a ≡ said) fault
told {E} number said (Ok text) fault is says = subst (IsFaultAt number (λ a. a ≡ said)) (sym is) (refl, says)
told {E} number said (Err want) fault is says = subst (IsFaultAt number (λ a. a ≡ said)) (sym is) tt

-- what is said with a fact
pub with_fact : (number : ℕ) (fact : Type 0) (answers : List ℕ → Type 0) (fault : AfterFault) → fact → IsFaultAt number answers fault
    → IsFaultAt number (λ a. fact × answers a) fault
with_fact number fact answers (Unaccepted found) so says = (says.0, (so, says.1))
with_fact number fact answers fault so says = says

-- the reply to a move that isn't accepted is the machine's, if it isn't that there is no memory
by_machine : (names : List (List ℕ)) (m : Session) (move : Move) (reply : Reply) (n : Session) (answer : List ℕ)
    → Performs m move reply n → is_accepted reply ≡ false → (want_of reply ≡ None) × (answer ≡ reply_text names reply)
    → IsRefused names m (Make move) answer
by_machine names m move reply n answer (inl answers) refuses says = (
  ap is_accepted (sym answers.0) ∙ refuses,
  says.1 ∙ ap (reply_text names) answers.0,
)
by_machine names m move reply n answer (inr wants) refuses says =
    absurd (none-some _ (sym says.0 ∙ ap want_of wants.1))

pub refused_move : (names : List (List ℕ)) (m : Session) (move : Move) (reply : Reply) (n : Session) (number : ℕ)
    (fault : AfterFault) → Performs m move reply n → is_accepted reply ≡ false
    → IsFaultAt number (λ answer. (want_of reply ≡ None) × (answer ≡ reply_text names reply)) fault
    → IsFaultAt number (IsRefused names m (Make move)) fault
refused_move names m move reply n number (Unaccepted found) performs refuses says =
    (says.0, by_machine names m move reply n (string_bytes found.answer) performs refuses says.1)
refused_move names m move reply n number fault performs refuses says = says

-- a fault that is passed on
pub passed_on : {T : Type 0} (r : Result T AfterFault) (P : AfterFault → Type 0) (fault : AfterFault) → IsErrAnd r (λ e. e ≡ fault)
    → P fault → IfErr r P
passed_on {T} (Ok x) P fault is so = absurd is
passed_on {T} (Err e) P fault is so = subst P (sym is) so

-- a doubt at the end
pub doubt_ends : (begun : Begun) (script : List ℕ) (all_known : Bool) (session : Session) (fault : AfterFault)
    → after_lines begun.names begun.session (lines_of script) ≡ Some session → all_known ≡ true
    → IsDoubtFault begun.names session begun.marked fault → IsEndFault begun script all_known fault
doubt_ends begun script all_known session (Doubt text) played asked doubt =
    (asked, record { session = session; played = played; doubt = doubt })
doubt_ends begun script all_known session NoMemory played asked doubt = tt
doubt_ends begun script all_known session fault played asked doubt = absurd doubt.says

-- no picture holds the state at the end
pub unheld_ends : (begun : Begun) (script : List ℕ) (all_known : Bool) (session : Session) (fault : PictureFault)
    → after_lines begun.names begun.session (lines_of script) ≡ Some session → IsEndFault begun script all_known (unheld_by fault)
unheld_ends begun script all_known session picture_fault.NoMemory played = tt
unheld_ends begun script all_known session fault played = record { session = session; played = played }

-- nothing was begun, or there is no end
pub never_begun : (picture script : List ℕ) (all_known : Bool) (fault : AfterFault) → IsBeginFault picture fault
    → IsAfterFault picture script all_known fault
never_begun picture script all_known (Picture located) is = is
never_begun picture script all_known NoMemory is = tt
never_begun picture script all_known fault is = absurd is

pub never_ended : (picture script : List ℕ) (all_known : Bool) (begun : Begun) (fault : AfterFault) → IsBegun picture begun
    → IsEndFault begun script all_known fault → IsAfterFault picture script all_known fault
never_ended picture script all_known begun (Unaccepted found) is_begun is = record { begun = begun; is_begun = is_begun; is_fault = is }
never_ended picture script all_known begun (Doubt text) is_begun is = record { begun = begun; is_begun = is_begun; is_fault = is }
never_ended picture script all_known begun (Unheld fault) is_begun is = record { begun = begun; is_begun = is_begun; is_fault = is }
never_ended picture script all_known begun NoMemory is_begun is = tt
never_ended picture script all_known begun fault is_begun is = absurd is

-- the picture isn't listed
pub not_listed : (picture : List ℕ) (located : LocatedFault) (fault : PictureFault)
    → (fault ≢ picture_fault.NoMemory → located_listing picture ≡ Some (located.fault, located.place))
    → IsBeginFault picture (refused_by fault located)
not_listed picture located picture_fault.NoMemory is = tt
not_listed picture located fault is = inr (is (search rules))

-- there is no memory
pub wanting : (number : ℕ) (answers : List ℕ → Type 0) (reply : Reply) (want : AfterFault) → want_of reply ≡ Some want
    → IsFaultAt number answers want
wanting number answers (Refused refusal.NoMemory) want is = subst (IsFaultAt number answers) (same_Some _ _ is) tt
wanting number answers reply want is = absurd (none-some want is)
