use Rattle.reh_window.proofs.ClipLaws.{any-clipped, says-clipped}
use Rattle.reh_window.proofs.laws.a_window_says_the_same.Goals as goal

pub returns-clause-says : goal.returns-clause-says
returns-clause-says c = says-clipped

pub returns-clause-lists : goal.returns-clause-lists
returns-clause-lists c = any-clipped
