use Rattle.std.proofs.Common.{◌≡◌, ◌∙◌, ℕ, Bool, List, ap, length, arith}
use Rattle.std.specs.Prelude.{count_by}
use Rattle.reh_census.specs.Bookies.{is_flagged}
use Rattle.reh_census.proofs.RuleLaws.{stopped-left}
use Rattle.reh_rules.proofs.copies.copies_left.Goals as goal

pub returns : goal.returns
returns c =
    let s : ℕ → Bool = is_flagged c.args.stopped.now in
    let stops : c.count_stopped.result ≡ count_by s c.args.class.now.known =
    c.count_stopped.ensures.stopped ∙ ap (λ (names : List ℕ). count_by s names) c.as_slice-2.ensures in
    omega (arith, ap length c.as_slice.ensures, stops, stopped-left s c.args.class.now.known)
