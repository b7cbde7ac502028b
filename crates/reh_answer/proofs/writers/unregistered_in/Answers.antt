use Rattle.std.proofs.Common.{◌≡◌, ◌∙◌, ◌+◌, ◌++◌, ◌∷◌, [], Bool, true, false, List, ℕ, cond, Vec, Global, append-nil, sym, ap}
use Rattle.std.specs.List.{filter}
use Rattle.reh_census.specs.Bookies.{bookies_of, is_flagged}
use Rattle.reh_census.specs.Striping.{range}
use Rattle.reh_answer.specs.Facts.{is_missing}
use Rattle.reh_answer.proofs.Lists.{filter-range_more}
use Rattle.reh_answer.proofs.writers.unregistered_in.Goals.{then-is_missing+in_ok-push, else-is_missing}
use Rattle.reh_answer.proofs.writers.unregistered_in.Goals as goal

pub loop-bookie-preserved : goal.loop-bookie-preserved
loop-bookie-preserved c =
    let missing : ℕ → Bool = is_missing (bookies_of c.args.bookies.now) (is_flagged c.args.stopped.now) in
    let b : ℕ = c.loop-bookie.bookie in
    let names : List ℕ = filter missing (range 0 b) in
    let more : (is : Bool) → missing b ≡ is → names ++ cond is (b ∷ []) [] ≡ filter missing (range 0 (b + 1)) =
    λ is e. ap (λ (x : Bool). names ++ cond x (b ∷ []) []) (sym e) ∙ sym (filter-range_more missing b) in
    elim c.if-is_missing.branch [
      | then-is_missing+in_ok-push w ↦
          ap (λ (v : Vec ℕ Global). v.items) w.names-is ∙ w.in_ok-push.ensures.items ∙ ap (λ (ns : List ℕ). ns ++ b ∷ []) c.loop-bookie.invariant
          ∙ more true (sym c.is_missing.ensures ∙ w.if-is_missing.true)
      | else-is_missing w ↦
          ap (λ (v : Vec ℕ Global). v.items) w.names-is ∙ c.loop-bookie.invariant ∙ sym (append-nil names)
          ∙ more false (sym c.is_missing.ensures ∙ w.if-is_missing.false)
    ]
