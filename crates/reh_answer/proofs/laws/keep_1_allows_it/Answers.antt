use Rattle.std.proofs.Common.{◌≡◌, Bool, true, false, [], refl, ap}
use Rattle.reh_answer.specs.Texts.{hint}
use Rattle.reh_answer.proofs.laws.keep_1_allows_it.Goals as goal

said : (b : Bool) → (hint b ≡ [] → ⊥) → b ≡ true
said true some = refl
said false some = absurd (some refl)

pub returns-clause-only : goal.returns-clause-only
returns-clause-only c counting most bookies question judged stopped = said _

pub returns-clause-each : goal.returns-clause-each
returns-clause-each c counting most bookies question judged stopped goes = ap hint goes
