-- One ledger more.
use Rattle.std.proofs.Common.{◌≡◌, ◌∙◌, ◌+◌, ◌<◌, ◌++◌, ℕ, List, ap, sym, subst, append_assoc, length, get_or, drop, arith}
use Rattle.std.specs.Prelude.{All}
use Rattle.std.proofs.lemmas.List.Elements.{All-append}
use Rattle.reh_census.specs.Bookies.{bookies_of, is_flagged}
use Rattle.reh_census.specs.Ledgers.{Ledger}
use Rattle.reh_against.specs.declared.found.Found.{Found}
use Rattle.reh_against.specs.Weights.{weight, weight_of}
use Rattle.reh_against.specs.Worst as model
use Rattle.reh_against.proofs.FoundLaws.{All-found_if, found-more}
use Rattle.reh_against.proofs.picks.found_in.Goals as goal

pub loop-place-preserved : goal.loop-place-preserved
loop-place-preserved c =
    let w : Ledger → ℕ = weight (bookies_of c.args.stop.now.bookies.now) c.args.stop.now.question.now (is_flagged c.args.stop.now.stopped.now) c.args.stop.now.answer.now in
    let ids : List ℕ = c.args.ids.now in
    let ledgers : List Ledger = c.args.ledgers.now in
    let n : ℕ = c.loop-place.place in
    let found : List Found = c.loop-place.found.items in
    let within : n < length ledgers = omega arith in
    let rest : List Found = model.found_from w (n + 1) (drop (n + 1) ids) (drop (n + 1) ledgers) in
    let added : c.add.new.found.items ≡ found ++ model.found_if (w c.index-ledgers-place.result) (get_or ids n 0) n =
    c.in_ok-add.ensures
    ∙ ap (λ (x : ℕ). found ++ model.found_if x (get_or ids n 0) n)
    (c.in_ok-weight.ensures.weight
    ∙ ap (weight_of (bookies_of c.args.stop.now.bookies.now) c.args.stop.now.question.now (is_flagged c.args.stop.now.stopped.now)
    c.args.stop.now.answer.now) c.from_ref.ensures.value) in
    record {
      found =
          ap (λ (fs : List Found). fs ++ rest) added
          ∙ append_assoc found (model.found_if (w c.index-ledgers-place.result) (get_or ids n 0) n) rest
          ∙ ap (λ (fs : List Found). found ++ fs) (found-more w ids ledgers n c.index-ledgers-place.result c.requires within c.index-ledgers-place.is)
          ∙ c.loop-place.invariant.found;
      places =
          subst (λ (fs : List Found). All (λ f. f.place < length ledgers) fs) (sym added)
          (All-append (λ f. f.place < length ledgers) found _ c.loop-place.invariant.places
          (All-found_if (length ledgers) (w c.index-ledgers-place.result) (get_or ids n 0) n within));
    }
