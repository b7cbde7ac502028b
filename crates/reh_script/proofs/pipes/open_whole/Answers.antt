use Rattle.reh_script.proofs.Ends.{whole_opened, whole_unopened}
use Rattle.reh_script.proofs.pipes.open_whole.Goals as goal

pub returns-in_err-open_picture-clause-piped : goal.returns-in_err-open_picture-clause-piped
returns-in_err-open_picture-clause-piped c = λ held.
    whole_unopened c.args.input.now _ c.in_err-open_picture.field-0.0 _ held c.split_input.ensures.picture
    c.in_err-open_picture.ensures c.from_residual.ensures.1

pub returns-clause-piped : goal.returns-clause-piped
returns-clause-piped c = λ held.
    whole_opened c.args.input.now _ _ held c.requires c.split_input.ensures.picture c.in_ok-open_picture.ensures
