-- The words of both values.
use Rattle.reh_changes.proofs.places.push_scalar.Goals as goal

pub returns-in-Enabled : goal.returns-in-Enabled
returns-in-Enabled c =
    let known =
    rw (c.enabled_word-was.ensures, c.enabled_word-now.ensures, c.is_enabled.ensures) at c.push_values.ensures in
    rw c.in-Enabled.is known
