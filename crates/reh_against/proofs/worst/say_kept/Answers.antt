-- One more is said; and it is said of the ledgers of which they are.
use Rattle.std.proofs.Common.{◌≡◌, ◌∙◌, ◌+◌, ◌++◌, ◌∷◌, [], ℕ, List, Some, ap, map, sym, subst, take, take_all, string_bytes, arith}
use Rattle.std.proofs.lemmas.List.{take_more}
use Rattle.reh_census.specs.Bookies.{bookies_of, is_flagged}
use Rattle.reh_census.specs.Ledgers.{Ledger}
use Rattle.reh_answer.specs.declared.against.Against.{Against}
use Rattle.reh_against.specs.declared.found.Found.{Found}
use Rattle.reh_against.specs.declared.kept.Kept.{Kept}
use Rattle.reh_against.specs.Weighed.{IsAmong, found_of}
use Rattle.reh_against.specs.Worst.{Each, IsAgainst}
use Rattle.reh_against.proofs.FoundLaws.{Each-push}
use Rattle.reh_against.proofs.WeighLaws.{each-at, each-of}
use Rattle.reh_against.proofs.worst.say_kept.Goals as goal

pub loop-one-preserved : goal.loop-one-preserved
loop-one-preserved c =
    let is : Kept → Against → Type 0 = λ kept against.
    (ledgers : List (List Ledger)) → IsAmong ledgers kept
    → IsAgainst (map string_bytes c.args.stop.now.names.now) ledgers (bookies_of c.args.stop.now.bookies.now) c.args.stop.now.question.now.keep
    (is_flagged c.args.stop.now.stopped.now) c.args.stop.now.answer.now (found_of kept) against in
    let kept : List Kept = c.args.kept.now in
    let n : ℕ = c.loop-one.one-index in
    let one : Kept = c.one-item.result in
    let said : List Against = c.loop-one.against.items in
    let more : take (n + 1) kept ≡ take n kept ++ one ∷ [] =
    take_more kept n one (omega arith) ∙ (λ i. take n kept ++ sym c.one-item.is i ∷ []) in
    subst (λ (ks : List Kept). Each is ks c.push.new.self.items) (sym more)
    (subst (λ (ys : List Against). Each is (take n kept ++ one ∷ []) ys) (sym c.in_ok-push.ensures.items)
    (Each-push is (take n kept) said one c.in_ok-said.said c.loop-one.invariant
    (λ ledgers among. c.in_ok-said.ensures ledgers (among ∙ ap Some (sym c.deref.ensures.value)))))

pub returns : goal.returns
returns c = λ ledgers among.
    let is : List (List Ledger) → Found → Against → Type 0 = λ gs found against.
    IsAgainst (map string_bytes c.args.stop.now.names.now) gs (bookies_of c.args.stop.now.bookies.now) c.args.stop.now.question.now.keep
    (is_flagged c.args.stop.now.stopped.now) c.args.stop.now.answer.now found against in
    let said : Kept → Against → Type 0 = λ kept against. (gs : List (List Ledger)) → IsAmong gs kept → is gs (found_of kept) against in
    let kept : List Kept = c.args.kept.now in
    let all : Each said kept c.loop-one.against.items =
    subst (λ (ks : List Kept). Each said ks c.loop-one.against.items)
    (take_all c.loop-one.one-index kept (omega (arith, c.loop-one-test.false))) c.loop-one.invariant in
    each-of found_of (IsAmong ledgers) (is ledgers) kept c.loop-one.against.items among
    (each-at (λ gs k y. IsAmong gs k → is gs (found_of k) y) kept c.loop-one.against.items all ledgers)
