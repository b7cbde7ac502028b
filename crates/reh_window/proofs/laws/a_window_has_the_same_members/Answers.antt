use Rattle.reh_window.proofs.MemberLaws.{same-ensemble}
use Rattle.reh_window.proofs.laws.a_window_has_the_same_members.Goals as goal

pub returns : goal.returns
returns c = same-ensemble
