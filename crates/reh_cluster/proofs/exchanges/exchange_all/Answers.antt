-- The changes that are exchanged stand where they were, and the others stay.
use Rattle.std.proofs.Common.{◌≡◌, ◌-◌, ◌++◌, [], List, ℕ, length, take, drop, ap, ◌∙◌, arith}
use Rattle.std.proofs.lemmas.List.{take_all, drop_all, append-nil, length-drop}
use Rattle.reh_model.specs.Places.{Change, put_all, back_all}
use Rattle.reh_cluster.specs.Parts.{PartsValue}
use Rattle.reh_cluster.proofs.ExchangeLaws.{goes_on}
use Rattle.reh_cluster.proofs.exchanges.exchange_all.Goals as goal

pub loop-done-preserved : goal.loop-done-preserved
loop-done-preserved c =
    let ds : List Change = c.loop-done.changes in
    let i : ℕ = c.loop-done.done in
    let n : ℕ = c.exchange_run-done.result in
    let q : PartsValue = c.loop-done.parts in
    let seen : take (length ds - i) (drop i ds) ≡ drop i ds =
    take_all (length ds - i) (drop i ds) (omega (arith, length-drop i ds)) in
    let behind : drop (length ds - i) (drop i ds) ≡ [] =
    drop_all (length ds - i) (drop i ds) (omega (arith, length-drop i ds)) in
    goes_on c.loop-done.invariant n _ _
    (omega (arith, ap length seen, c.exchange_run-done.ensures.within))
    (c.exchange_run-done.ensures.parts ∙ ap (λ (xs : List Change). record q { parts = put_all q.parts (take n xs) }) seen)
    (ap (λ (xs : List Change). take i ds ++ (c.exchange_run-done.new.changes ++ xs)) behind
    ∙ ap (λ (xs : List Change). take i ds ++ xs) (append-nil c.exchange_run-done.new.changes)
    ∙ ap (λ (xs : List Change). take i ds ++ xs) (c.exchange_run-done.ensures.left
    ∙ ap (λ (xs : List Change). back_all q.parts (take n xs) ++ drop n xs) seen))
