-- One listed ledger more has its words, up to the last of them.
use Rattle.std.proofs.Common.{◌≡◌, ◌∙◌, List, ◌++◌, ◌∷◌, [], None, map, sym, ap}
use Rattle.std.specs.BTreeMap.{get}
use Rattle.std.specs.Ordering.{nat_cmp}
use Rattle.std.proofs.lemmas.Iterator.Adapters.{YieldsList-from_vec}
use Rattle.std.proofs.lemmas.Iterator.Consumers.{YieldsList-end}
use Rattle.std.proofs.lemmas.List.{map-append, map-id}
use Rattle.reh_model.specs.Cluster.{Ledger}
use Rattle.reh_picture.specs.Contents.{words_to}
use Rattle.reh_picture.specs.Ledgers.{ListedLedger, ledger_of}
use Rattle.reh_picture.proofs.ledgers.with_words.Goals as goal

pub loop-ledger-preserved : goal.loop-ledger-preserved
loop-ledger-preserved c =
    let listed = c.in-Some.ledger in
    let made = ledger_of (get nat_cmp c.args.greatest.now) in
    let end : c.copied-end.result ≡ get nat_cmp c.args.greatest.now listed.id =
    c.copied-end.ensures ∙ c.get.ensures.value
    ∙ ap (λ (g : ListedLedger). get nat_cmp c.args.greatest.now g.id) c.ledger.view_is in
    let one : c.reaching.result ≡ made listed =
    c.reaching.ensures
    ∙ (λ i.
    record { id = listed.id; metadata = listed.metadata; words = words_to (end i); task = None; lock = None }) in
    ◌∙◌ {A = List Ledger} c.in_ok-push.ensures.items
    (◌∙◌ {A = List Ledger} (λ i. c.loop-ledger.invariant i ++ one i ∷ [])
    (sym (map-append made c.loop-ledger.yielded (listed ∷ []))))

pub returns : goal.returns
returns c =
    let given = c.into_iter-ledger-iterator.ensures.into_iter_gives in
    let all =
    YieldsList-end
    (YieldsList-from_vec {s = c.into_iter-ledger-iterator.result} c.args.listed.items given.0
    (given.1 ∙ c.args.listed.ok.0))
    c.loop-ledger.yielded c.loop-ledger.ledger-iterator c.loop-ledger.yielded_by c.next.result c.next.new.self
    c.in-None.is c.next.ensures.steps in
    c.loop-ledger.invariant
    ∙ ap (map (ledger_of (get nat_cmp c.args.greatest.now))) (sym (map-id c.loop-ledger.yielded) ∙ all.0)
