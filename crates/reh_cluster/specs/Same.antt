-- Which tests of ledgers tell whether they are equal, and the test of parts; contents go row by row.
use Rattle.std.specs.Prelude.{◌≡◌, ◌<◌, ℕ, Bool, ◌&&◌, List, All, nat_eq}
use Rattle.std.specs.Option.{option_eq}
use Rattle.std.specs.Cmp.Lexicographic.{pointwise}
use mathlib.Core.Path.{ap}
use Rattle.reh_types.specs.declared.locks.Lock.{Lock}
use Rattle.reh_types.specs.declared.scalars.Scalars.{Scalars}
use Rattle.reh_types.specs.contracts.locks.LockPartialEq.TheImpl as derived
use Rattle.reh_types.specs.contracts.scalars.ScalarsPartialEq.TheImpl as scalars
use Rattle.reh_types.specs.Same.{Tells, told_by, told_both, tells_numbers, tells_options, same_members, tells_sets}
use Rattle.reh_meta.specs.Same.{same_metadata, tells_metadata}
use Rattle.reh_model.specs.Contents.{Contents, has}
use Rattle.reh_model.specs.Cluster.{Ledger, Parts}

-- the derived `==` of locks
abbrev pub same_lock : Lock → Lock → Bool
same_lock = (derived.eq-value).it

pub tells_locks : Tells same_lock
tells_locks l k =
    told_by (told_both (tells_numbers l.owner k.owner) (tells_options tells_numbers l.due k.due))
    (λ p i. record { owner = p.0 i; due = p.1 i })
    (λ e. (ap (λ (x : Lock). x.owner) e, ap (λ (x : Lock). x.due) e))

abbrev pub same_ledger : Ledger → Ledger → Bool
same_ledger g h =
    nat_eq g.id h.id
    && (same_metadata g.metadata h.metadata
    && (nat_eq g.words h.words && (option_eq same_members g.task h.task && option_eq same_lock g.lock h.lock)))

pub tells_ledgers : Tells same_ledger
tells_ledgers g h =
    told_by
    (told_both (tells_numbers g.id h.id)
    (told_both (tells_metadata g.metadata h.metadata)
    (told_both (tells_numbers g.words h.words)
    (told_both (tells_options tells_sets g.task h.task) (tells_options tells_locks g.lock h.lock)))))
    (λ p i. record { id = p.0 i; metadata = p.1.0 i; words = p.1.1.0 i; task = p.1.1.1.0 i; lock = p.1.1.1.1 i })
    (λ e. (
      ap (λ (x : Ledger). x.id) e,
      (
        ap (λ (x : Ledger). x.metadata) e,
        (ap (λ (x : Ledger). x.words) e, (ap (λ (x : Ledger). x.task) e, ap (λ (x : Ledger). x.lock) e)),
      ),
    ))

-- the derived `==` of scalars
abbrev pub same_scalars : Scalars → Scalars → Bool
same_scalars = (scalars.eq-value).it

-- whether the parts are equal, but for the contents
abbrev pub same_but_contents : Parts → Parts → Bool
same_but_contents p q =
    pointwise (option_eq nat_eq) p.lost_at q.lost_at
    && (pointwise same_ledger p.ledgers q.ledgers && same_scalars p.scalars q.scalars)

-- each of so many bookies holds the same entries of each ledger
abbrev pub HaveSameRows : ℕ → List Ledger → Contents → Contents → Type 0
HaveSameRows bookies ledgers s t = All (λ g. (b e : ℕ) → b < bookies → has s b g.id e ≡ has t b g.id e) ledgers
