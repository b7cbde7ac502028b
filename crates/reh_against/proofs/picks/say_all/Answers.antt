-- One more is said.
use Rattle.std.proofs.Common.{◌≡◌, ◌+◌, ◌++◌, ◌∷◌, [], ℕ, List, map, sym, subst, take, get_or, string_bytes, arith}
use Rattle.std.proofs.lemmas.List.{take_more}
use Rattle.reh_census.specs.Bookies.{bookies_of, is_flagged}
use Rattle.reh_answer.specs.declared.against.Against.{Against}
use Rattle.reh_against.specs.declared.found.Found.{Found}
use Rattle.reh_against.specs.Worst.{Each, IsAgainst, alone, found_by}
use Rattle.reh_against.proofs.FoundLaws.{Each-push}
use Rattle.reh_against.proofs.picks.say_all.Goals as goal

pub loop-found-preserved : goal.loop-found-preserved
loop-found-preserved c =
    let is : Found → Against → Type 0 =
    IsAgainst (map string_bytes c.args.stop.now.names.now) (map alone c.args.ledgers.now) (bookies_of c.args.stop.now.bookies.now) c.args.stop.now.question.now.keep
    (is_flagged c.args.stop.now.stopped.now) c.args.stop.now.answer.now in
    let worst : List Found = c.args.worst.now in
    let n : ℕ = c.loop-found.found-index in
    let one : Found = get_or worst n (found_by 0 0 0) in
    let said : List Against = c.loop-found.against.items in
    let more : take (n + 1) worst ≡ take n worst ++ one ∷ [] = take_more worst n (found_by 0 0 0) (omega arith) in
    subst (λ (fs : List Found). Each is fs c.push.new.self.items) (sym more)
    (subst (λ (ys : List Against). Each is (take n worst ++ one ∷ []) ys) (sym c.in_ok-push.ensures.items)
    (Each-push is (take n worst) said one c.in_ok-one.one c.loop-found.invariant c.in_ok-one.ensures))
