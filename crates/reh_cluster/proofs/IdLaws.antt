-- Ledgers by their ids: where one of an id stands, and that an exchange keeps the ids.
use Rattle.std.proofs.Common.{◌≡◌, ◌∙◌, ℕ, zero, suc, true, false, List, [], ◌∷◌, map, position, nat_eq, nat_lt, cond, length, Some, None, ◌≤◌, sym, ap, refl, arith}
use Rattle.std.specs.Prelude.{◌==◌}
use Rattle.std.proofs.lemmas.Bool.Decides.{nat_tests}
use Rattle.std.proofs.lemmas.List.Folds.{find_at}
use Rattle.std.proofs.lemmas.Option.{slice_get_past}
use Rattle.std.specs.List.{find, position_or_len}
use Rattle.reh_types.specs.declared.changes.Change.TheVariants.{Metadata, Task, Lock}
use Rattle.reh_model.specs.Cluster.{Parts, Ledger, change_at}
use Rattle.reh_model.specs.Places.{Change, put, put_all}
use Rattle.reh_model.proofs.LedgerLaws.{KeepsId}
use Rattle.reh_cluster.proofs.NamesLemmas.{position-map}

same_test : (a b : ℕ) → nat_eq a b ≡ nat_eq b a
same_test a b = elim (nat_eq a b) as (λ t. nat_eq a b ≡ t → t ≡ nat_eq b a) [
  | true ↦ λ is. sym (grind (arith, nat_tests, is))
  | false ↦ λ is. sym (grind (arith, nat_tests, is))
] refl

-- the place of an id is that of the ledger that has it
pub position_of-id : (gs : List Ledger) (l : ℕ) → position (nat_eq l) (map (λ g. g.id) gs) ≡ position (λ g. g.id == l) gs
position_of-id gs l = position-map (λ (g : Ledger). g.id) (nat_eq l) gs ∙ (λ i. position (λ (g : Ledger). same_test l g.id i) gs)

-- where no ledger of an id stands, none is found
pub absent : (gs : List Ledger) (l : ℕ) → position (λ g. g.id == l) gs ≡ None → find (λ g. g.id == l) gs ≡ None
absent gs l none = find_at (λ g. g.id == l) gs ∙ slice_get_past gs first past where
  first : ℕ
  first = position_or_len (λ g. g.id == l) gs

  past : length gs ≤ first
  past = elim (nat_lt first (length gs)) as (λ b. nat_lt first (length gs) ≡ b → cond b (Some first) None ≡ None → length gs ≤ first) [
    | true ↦ λ _ none. cc
    | false ↦ λ is _. grind (arith, nat_tests, is)
  ] refl none

-- An exchange keeps the ids

ids-change_at : (change : Ledger → Ledger) → KeepsId change → (gs : List Ledger) (k : ℕ) → map (λ g. g.id) (change_at gs k change) ≡ map (λ g. g.id) gs
ids-change_at change keeps [] k = refl
ids-change_at change keeps (g ∷ gs) zero = ap (λ n. n ∷ map (λ g. g.id) gs) (keeps g)
ids-change_at change keeps (g ∷ gs) (suc k) = ap (λ ns. g.id ∷ ns) (ids-change_at change keeps gs k)

ids-put : (p : Parts) (c : Change) → map (λ g. g.id) (put p c).ledgers ≡ map (λ g. g.id) p.ledgers
ids-put p (Metadata i metadata) = ids-change_at _ (λ g. refl) p.ledgers i
ids-put p (Task i task) = ids-change_at _ (λ g. refl) p.ledgers i
ids-put p (Lock i lock) = ids-change_at _ (λ g. refl) p.ledgers i
ids-put p c = refl

pub ids-put_all : (p : Parts) (cs : List Change) → map (λ g. g.id) (put_all p cs).ledgers ≡ map (λ g. g.id) p.ledgers
ids-put_all p [] = refl
ids-put_all p (c ∷ cs) = ids-put_all (put p c) cs ∙ ids-put p c
