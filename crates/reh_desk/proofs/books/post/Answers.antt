-- A session answers a post with 'out of memory' only where it would be accepted.
use Rattle.std.proofs.Common.{◌≡◌, sym, ap, ◌∙◌, true≢false, refl, inl, inr}
use Rattle.reh_types.specs.declared.moves.Move.TheVariants.{Post}
use Rattle.reh_types.specs.declared.moves.Reply.TheVariants.{Done, Refused}
use Rattle.reh_types.specs.declared.refusals.Refusal.TheVariants.{NoMemory}
use Rattle.reh_types.specs.declared.contents.Content.{Content}
use Rattle.reh_model.specs.Session.{Session, Performs, reply_to}
use Rattle.reh_model.specs.Book.{is_written}
use Rattle.reh_model.proofs.BookLaws.{post_written}
use Rattle.reh_desk.proofs.books.post.Goals as goal

wanting : (m n : Session) (content : Content) → Performs m (Post content) (Refused NoMemory) n → (reply_to m (Post content) ≡ Done) × (n ≡ m)
wanting m n content (inl made) = absurd (true≢false (sym (post_written m content) ∙ ap is_written (sym made.0)))
wanting m n content (inr wants) = (wants.2, wants.3)

pub returns-in-Err-NoMemory : goal.returns-in-Err-NoMemory
returns-in-Err-NoMemory c =
    let wants = wanting _ _ _ (rw c.in-Err-NoMemory.field-0-is at c.in-Err-NoMemory.ensures.answers) in (refl, wants.0, wants.1)
