use Rattle.reh_script.proofs.Transcripts.{plays_book}
use Rattle.reh_script.proofs.book_plays.play_book.Goals as goal

pub returns-clause-transcribes : goal.returns-clause-transcribes
returns-clause-transcribes g c = plays_book _ _ _ _ _ _ _ _ _ _ _ c.play.ensures.plays
