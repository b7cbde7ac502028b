-- The rows of one ledger more are the same.
use Rattle.std.proofs.Common.{◌≡◌, ◌<◌, ◌∙◌, ℕ, List, length, get_or, sym, ap, subst, arith, refl}
use Rattle.std.specs.Prelude.{All}
use Rattle.std.proofs.lemmas.List.{take_all}
use Rattle.std.proofs.lemmas.List.Elements.{All-more}
use Rattle.reh_model.specs.Contents.{has}
use Rattle.reh_model.specs.Cluster.{Ledger}
use Rattle.reh_cluster.specs.Parts.{PartsValue}
use Rattle.reh_cluster.proofs.parts.Parts.have_same_rows.Goals as goal

IsSameRow : PartsValue → PartsValue → Ledger → Type 0
IsSameRow p q g = (b e : ℕ) → b < p.bookies → has p.parts.held b g.id e ≡ has q.parts.held b g.id e

pub loop-ledger-preserved : goal.loop-ledger-preserved
unfolding IsSameRow
loop-ledger-preserved c =
    let p : PartsValue = c.args.self.now in
    let q : PartsValue = c.args.other.now in
    let g : Ledger = c.ledger-item.result in
    let seen : c.deref-ledger-items.result.now ≡ p.parts.ledgers =
    c.deref-ledger-items.ensures.value ∙ ap (λ (v : PartsValue). v.parts.ledgers) c.self.view_is in
    let here : IsSameRow p q g =
    λ b e within.
    (λ i. has ((sym c.self.view_is i).parts.held) b (sym c.id.ensures i) e)
    ∙ c.if-not-has_same_rows.ensures.0 refl b e
    (omega (arith, within, ap (λ (v : PartsValue). v.bookies) c.self.view_is))
    ∙ (λ i. has ((c.other.view_is i).parts.held) b (c.id.ensures i) e) in
    All-more (IsSameRow p q) p.parts.ledgers c.loop-ledger.ledger-index g
    (omega (arith, c.loop-ledger-test.true, ap length seen)) c.loop-ledger.invariant
    (subst (IsSameRow p q) (c.ledger-item.is ∙ ap (λ (gs : List Ledger). get_or gs c.loop-ledger.ledger-index g) seen)
    here)

pub returns : goal.returns
unfolding IsSameRow
returns c =
    let p : PartsValue = c.args.self.now in
    let q : PartsValue = c.args.other.now in
    let seen : c.deref-ledger-items.result.now ≡ p.parts.ledgers =
    c.deref-ledger-items.ensures.value ∙ ap (λ (v : PartsValue). v.parts.ledgers) c.self.view_is in
    let all : All (IsSameRow p q) p.parts.ledgers =
    subst (λ (gs : List Ledger). All (IsSameRow p q) gs)
    (take_all c.loop-ledger.ledger-index p.parts.ledgers (omega (arith, c.loop-ledger-test.false, ap length seen)))
    c.loop-ledger.invariant in
    (λ told. all, λ same. refl)
