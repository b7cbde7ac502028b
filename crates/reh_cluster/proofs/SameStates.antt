-- States with equal parts, row by row, are equal.
use Rattle.std.proofs.Common.{◌≡◌, ◌<◌, ◌∙◌, ℕ, Bool, true, false, List, [], ◌∷◌, length, refl, sym, ap, subst, arith, IsSome, Some, cond, get_or}
use Rattle.std.specs.Prelude.{◌==◌, ◌↔◌, All, IsTrue}
use Rattle.std.specs.Cmp.{booleans_Decides}
use Rattle.std.specs.List.{find}
use Rattle.std.proofs.lemmas.Bool.Decides.{nat_tests}
use Rattle.std.proofs.lemmas.List.Elements.{All-head, All-tail}
use Rattle.reh_types.specs.declared.scalars.Scalars.{Scalars}
use Rattle.reh_types.specs.Same.{Tells, told_by, told_both, tells_numbers, tells_lists, tells_options, two_ways}
use Rattle.reh_types.specs.Sets.{contains, same_set}
use Rattle.reh_model.specs.Contents.{Contents, has}
use Rattle.reh_model.specs.Cluster.{Cluster, Ledger, Parts, ledger_among}
use Rattle.reh_model.specs.WellFormed.{AreContents, IsCopy, IsWellFormed}
use Rattle.reh_model.proofs.ContentsLaws.{All-copy}
use Rattle.reh_cluster.specs.Same.{same_but_contents, same_scalars, tells_ledgers, HaveSameRows}

module _ (bookies : ℕ) (s t : Contents) where
  abbrev IsSameRow : Ledger → Type 0
  IsSameRow g = (b e : ℕ) → b < bookies → has s b g.id e ≡ has t b g.id e

  -- the rows of a ledger that is there
  row_of : (gs : List Ledger) → All IsSameRow gs → (b l e : ℕ) → b < bookies → IsSome (ledger_among gs l)
      → has s b l e ≡ has t b l e
  row_of [] rows b l e within there = cc
  row_of (g ∷ gs) rows b l e within there =
      elim (g.id == l) as (λ c. (g.id == l) ≡ c → IsSome (cond c (Some g) (find (λ h. h.id == l) gs))
      → has s b l e ≡ has t b l e) [
        | true ↦ λ here _.
            let id : g.id ≡ l = grind (arith, nat_tests) in
            subst (λ (k : ℕ). has s b k e ≡ has t b k e) id (All-head IsSameRow g gs rows b e within)
        | false ↦ λ _ later. row_of gs (All-tail IsSameRow g gs rows) b l e within later
      ] refl there

  -- contents are their rows
  pub same_contents : (gs : List Ledger) → AreContents bookies gs s → AreContents bookies gs t
      → HaveSameRows bookies gs s t → s ≡ t
  same_contents gs of_s of_t rows = same_set s t (λ q.
      two_ways (contains s q) (contains t q)
      (λ one.
      let copy = All-copy (IsCopy bookies gs) s of_s.copies q one in
      sym (row_of gs rows q.0 q.1 q.2 copy.0 copy.1) ∙ one)
      (λ one.
      let copy = All-copy (IsCopy bookies gs) t of_t.copies q one in
      row_of gs rows q.0 q.1 q.2 copy.0 copy.1 ∙ one))

tells_scalars : Tells same_scalars
tells_scalars x y =
    told_by (told_both (tells_numbers x.clock y.clock) (booleans_Decides x.enabled y.enabled))
    (λ e i. record { clock = e.0 i; enabled = e.1 i })
    (λ e. (ap (λ (z : Scalars). z.clock) e, ap (λ (z : Scalars). z.enabled) e))

-- parts that are the same but for the contents
pub same_parts : (p q : Parts) → IsTrue (same_but_contents p q) ↔ (record p { held = q.held } ≡ q)
same_parts p q =
    told_by
    (told_both (tells_lists (tells_options tells_numbers) p.lost_at q.lost_at)
    (told_both (tells_lists tells_ledgers p.ledgers q.ledgers) (tells_scalars p.scalars q.scalars)))
    (λ e i. record { lost_at = e.0 i; ledgers = e.1.0 i; held = q.held; scalars = e.1.1 i })
    (λ e. (
      ap (λ (r : Parts). r.lost_at) e,
      (ap (λ (r : Parts). r.ledgers) e, ap (λ (r : Parts). r.scalars) e),
    ))

-- the rows of equal states are equal
pub same_rows : (bookies : ℕ) (gs : List Ledger) (s t : Contents) → s ≡ t → HaveSameRows bookies gs s t
same_rows bookies gs s t same k g within b e there = ap (λ (c : Contents). has c b (get_or gs k g).id e) same

pub same_state : (s t : Cluster) → IsWellFormed s → IsWellFormed t → s.names ≡ t.names → s.grace ≡ t.grace → s.delay ≡ t.delay
    → record s.parts { held = t.parts.held } ≡ t.parts
    → HaveSameRows (length s.names) s.parts.ledgers s.parts.held t.parts.held → s ≡ t
same_state s t of_s of_t names grace delay but rows =
    let ledgers : s.parts.ledgers ≡ t.parts.ledgers = ap (λ (p : Parts). p.ledgers) but in
    let there : AreContents (length s.names) s.parts.ledgers t.parts.held =
    subst (λ (n : List (List ℕ)). AreContents (length n) s.parts.ledgers t.parts.held) (sym names)
    (subst (λ (gs : List Ledger). AreContents (length t.names) gs t.parts.held) (sym ledgers) of_t.contents) in
    let held : s.parts.held ≡ t.parts.held =
    same_contents (length s.names) s.parts.held t.parts.held s.parts.ledgers of_s.contents there rows in
    let parts : s.parts ≡ t.parts = ap (λ (c : Contents). record s.parts { held = c }) held ∙ but in
    λ i. record { names = names i; grace = grace i; delay = delay i; parts = parts i }

-- where all else is the same, the rows tell whether two states are
pub told_by_rows : (s t : Cluster) (bookies : ℕ) (answer : Bool) → IsWellFormed s → IsWellFormed t
    → bookies ≡ length s.names → s.names ≡ t.names → s.grace ≡ t.grace → s.delay ≡ t.delay
    → IsTrue (same_but_contents s.parts t.parts)
    → IsTrue answer ↔ HaveSameRows bookies s.parts.ledgers s.parts.held t.parts.held → IsTrue answer ↔ (s ≡ t)
told_by_rows s t bookies answer of_s of_t count names grace delay but rows =
    told_by rows
    (λ are.
    same_state s t of_s of_t names grace delay ((same_parts s.parts t.parts).0 but)
    (subst (λ (n : ℕ). HaveSameRows n s.parts.ledgers s.parts.held t.parts.held) count are))
    (λ same. same_rows bookies s.parts.ledgers s.parts.held t.parts.held (ap (λ (x : Cluster). x.parts.held) same))
