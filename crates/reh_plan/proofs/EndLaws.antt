-- Flags of ledgers, one after another, and ledgers that are finished.
use Rattle.std.proofs.Common.{◌≡◌, ◌∙◌, ℕ, zero, suc, ◌+◌, ◌<◌, All, Bool, false, is_some, List, [], ◌∷◌, ◌++◌, ap, arith, length, map, subst, sym, take}
use Rattle.std.specs.Prelude.{IsTrue, get_or}
use Rattle.std.proofs.lemmas.List.{length-map, length-take-le, map_more}
use Rattle.std.proofs.lemmas.List.Elements.{All-weaker}
use Rattle.std.proofs.lemmas.List.Folds.{list_any_none}
use Rattle.reh_model.specs.Cluster.{Cluster, Ledger}
use Rattle.reh_model.specs.Metadata.{is_in_recovery}
use Rattle.reh_plan.specs.Ends.{AllFilled, AreAmong, IsDone, IsSettled, flag_at, is_needless}
use Rattle.reh_plan.specs.Workers.{Rules, may_work}

-- a flag more, that is set only where a test says so
more : (flags : List Bool) (flag : Bool) (test : ℕ → Bool) → ((k : ℕ) → IsTrue (flag_at flags k) → IsTrue (test k))
    → (IsTrue flag → IsTrue (test (length flags))) → (k : ℕ) → IsTrue (flag_at (flags ++ flag ∷ []) k) → IsTrue (test k)
more [] flag test among last zero is = last is
more [] flag test among last (suc k) is = among (suc k) is
more (x ∷ flags) flag test among last zero is = among zero is
more (x ∷ flags) flag test among last (suc k) is =
    more flags flag (λ n. test (suc n)) (λ n. among (suc n)) last k is

-- one ledger more, which is in recovery only where the flag at its place is set
pub among-more : (ledgers : List Ledger) (others : List Bool) (place : ℕ) (g : Ledger) → place < length ledgers
    → g ≡ get_or ledgers place g → AreAmong (map (λ g. is_in_recovery g.metadata.state) (take place ledgers)) others
    → (IsTrue (is_in_recovery g.metadata.state) → IsTrue (flag_at others place))
    → AreAmong (map (λ g. is_in_recovery g.metadata.state) (take (place + 1) ledgers)) others
among-more ledgers others place g within is among last =
    let flag_of : Ledger → Bool = λ g. is_in_recovery g.metadata.state in
    let flags : List Bool = map flag_of (take place ledgers) in
    let grown : map flag_of (take (place + 1) ledgers) ≡ flags ++ flag_of g ∷ [] =
    map_more flag_of ledgers place g within ∙ ap (λ (x : Ledger). flags ++ flag_of x ∷ []) (sym is) in
    let long : length flags ≡ place =
    length-map (take place ledgers) flag_of ∙ length-take-le place ledgers (omega (arith, within)) in
    subst (λ (fs : List Bool). AreAmong fs others) (sym grown)
    (more flags (flag_of g) (flag_at others) among (λ set. subst (λ n. IsTrue (flag_at others n)) (sym long) (last set)))

-- nothing is left of a ledger that the bookies that may work could do
pub record IsFinished (rules : Rules) (s : Cluster) (g : Ledger) : Type 0 where
  pub filled : AllFilled (may_work rules) s g
  pub settled : IsSettled rules s g
  pub unlocked : is_some g.lock ≡ false
  pub needed : is_needless s g ≡ false

-- and so of any
pub all_done : (rules : Rules) (s : Cluster) → All (IsFinished rules s) s.parts.ledgers → IsDone rules s
all_done rules s all = record {
  complete = All-weaker (IsFinished rules s) (AllFilled (may_work rules) s) (λ g finished. finished.filled) s.parts.ledgers all;
  settled = All-weaker (IsFinished rules s) (IsSettled rules s) (λ g finished. finished.settled) s.parts.ledgers all;
  unlocked =
      list_any_none (λ g. is_some g.lock) s.parts.ledgers
      (All-weaker (IsFinished rules s) (λ g. is_some g.lock ≡ false) (λ g finished. finished.unlocked) s.parts.ledgers all);
  needed =
      list_any_none (is_needless s) s.parts.ledgers
      (All-weaker (IsFinished rules s) (λ g. is_needless s g ≡ false) (λ g finished. finished.needed) s.parts.ledgers all);
}
