-- A task is pushed exactly where an audit changes it.
use Rattle.std.proofs.Common.{◌≡◌, ◌∙◌, ◌+◌, ◌++◌, ◌∷◌, ◌<◌, [], ℕ, Bool, true, false, cond, List, Vec, Global, map, take, length, get_or, append-nil, ap, sym, refl}
use Rattle.std.specs.List.{filter}
use Rattle.std.proofs.lemmas.List.{map-append}
use Rattle.std.proofs.lemmas.List.Elements.{filter_more}
use Rattle.reh_types.specs.declared.names.LedgerId.{LedgerId}
use Rattle.reh_types.specs.declared.bookies.BookieSet.{BookieSet}
use Rattle.reh_model.specs.Audit.{published_members, is_news}
use Rattle.reh_model.specs.Cluster.{Ledger}
use Rattle.reh_audit.proofs.audits.published_tasks.Goals.{then-is_news+in_ok-push, else-is_news}
use Rattle.reh_audit.proofs.audits.published_tasks.Goals as goal

passed : {X Y : Type 0} (f : X → Y) (x : X) (b : Bool) → map f (cond b (x ∷ []) []) ≡ cond b (f x ∷ []) []
passed f x true = refl
passed f x false = refl

more : {X Y : Type 0} (f : X → Y) (p : X → Bool) (xs : List X) (i : ℕ) (d : X) (b : Bool) → i < length xs → p (get_or xs i d) ≡ b
    → map f (filter p (take (i + 1) xs)) ≡ map f (filter p (take i xs)) ++ cond b (f (get_or xs i d) ∷ []) []
more f p xs i d b within is =
    ap (map f) (filter_more p xs i d within ∙ ap (λ (c : Bool). filter p (take i xs) ++ cond c (get_or xs i d ∷ []) []) is)
    ∙ map-append f (filter p (take i xs)) (cond b (get_or xs i d ∷ []) [])
    ∙ ap (λ ys. map f (filter p (take i xs)) ++ ys) (passed f (get_or xs i d) b)

pub loop-ledger-preserved : goal.loop-ledger-preserved
loop-ledger-preserved c =
    let ledgers : List Ledger = c.args.ledgers.now in
    let ledger : Ledger = c.ledger-item.result in
    let news : Ledger → Bool = is_news c.args.state.now in
    let asked : news (get_or ledgers c.loop-ledger.ledger-index ledger) ≡ c.is_news.result = ap news (sym c.ledger-item.is) ∙ sym c.is_news.ensures in
    let task : Ledger → LedgerId × BookieSet = λ g. (g.id, published_members c.args.state.now g) in
    elim c.if-is_news.branch [
      | then-is_news+in_ok-push w ↦
          ap (λ (v : Vec (LedgerId × BookieSet) Global). v.items) w.tasks-is
          ∙ w.in_ok-push.ensures.items
          ∙ (λ i. c.loop-ledger.invariant i ++ ((λ j. (w.id.ensures j, w.published_of.ensures j)) ∙ ap task c.ledger-item.is) i ∷ [])
          ∙ sym (more task news ledgers c.loop-ledger.ledger-index ledger true c.loop-ledger-test.true (asked ∙ w.if-is_news.true))
      | else-is_news w ↦
          ap (λ (v : Vec (LedgerId × BookieSet) Global). v.items) w.tasks-is
          ∙ c.loop-ledger.invariant
          ∙ sym (append-nil (map task (filter news (take c.loop-ledger.ledger-index ledgers))))
          ∙ sym (more task news ledgers c.loop-ledger.ledger-index ledger false c.loop-ledger-test.true (asked ∙ w.if-is_news.false))
    ]
