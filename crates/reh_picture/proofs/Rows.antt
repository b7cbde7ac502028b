-- Rows that are as long as ledgers say, and what lies within them.
use Rattle.std.proofs.Common.{◌≡◌, ℕ, zero, suc, ◌+◌, ◌-◌, ◌*◌, ◌<◌, Bool, true, false, cond, List, [], ◌∷◌, map}
use Rattle.std.proofs.Common.{length, take, get_or, Option, None, Some, unwrap_or, refl, sym, ap, ◌∙◌, arith, nat_eq}
use Rattle.std.specs.Prelude.{◌==◌, ◌/◌, max}
use Rattle.std.specs.List.{IsDistinct}
use Rattle.std.specs.Option.{option_map_or}
use Rattle.std.specs.Cmp.{unsigned_tied, nat_cmp_total}
use Rattle.std.specs.FinMap as finite
use Rattle.std.specs.FinMap.{get-insert}
use Rattle.std.proofs.lemmas.Bool.Decides.{nat_tests}
use Rattle.reh_model.specs.Cluster.{Ledger, ledger_among, words_among}
use Rattle.reh_model.proofs.LedgerLaws.{apart_at}
use Rattle.reh_held.specs.Values.{HeldValue, words_in, with_room}
use Rattle.reh_cluster.specs.Parts.{HasRows}
use Rattle.reh_picture.specs.Contents.{Holding, HasEnds, FitsIn}

abbrev words_found : Option Ledger → ℕ
words_found found = option_map_or (λ g. g.words) found 0

-- where ids differ, the ledgers before one have no words of its id
words_among-before : (gs : List Ledger) → IsDistinct nat_eq (map (λ g. g.id) gs) → (k : ℕ) (d : Ledger) → k < length gs
    → words_among (take k gs) (get_or gs k d).id ≡ 0
unfolding IsDistinct
words_among-before [] distinct k d within = absurd (omega arith)
words_among-before (g ∷ gs) distinct zero d within = refl
words_among-before (g ∷ gs) distinct (suc k) d within =
    ap (λ b. words_found (cond b (Some g) (ledger_among (take k gs) (get_or gs k d).id)))
    (apart_at g.id gs k d (omega arith) distinct.0)
    ∙ words_among-before gs distinct.1 k d (omega arith)

-- and one more that is added has its words, and the others have theirs
words_among-next : (gs : List Ledger) → IsDistinct nat_eq (map (λ g. g.id) gs) → (k : ℕ) (d : Ledger) → k < length gs
    → (l : ℕ)
    → words_among (take (suc k) gs) l
    ≡ cond (nat_eq l (get_or gs k d).id) (get_or gs k d).words (words_among (take k gs) l)
unfolding IsDistinct
words_among-next [] distinct k d within l = absurd (omega arith)
words_among-next (g ∷ gs) distinct zero d within l =
    elim (g.id == l) as (λ b. (g.id == l) ≡ b → words_found (cond b (Some g) None) ≡ cond (nat_eq l g.id) g.words 0) [
      | true ↦ λ here. let same : nat_eq l g.id ≡ true = grind (arith, nat_tests, here) in
          sym (ap (λ b. cond b g.words 0) same)
      | false ↦ λ other. let apart : nat_eq l g.id ≡ false = grind (arith, nat_tests, other) in
          sym (ap (λ b. cond b g.words 0) apart)
    ] refl
words_among-next (g ∷ gs) distinct (suc k) d within l =
    let h : Ledger = get_or gs k d in
    elim (g.id == l) as (λ b. (g.id == l) ≡ b
    → words_found (cond b (Some g) (ledger_among (take (suc k) gs) l))
    ≡ cond (nat_eq l h.id) h.words (words_found (cond b (Some g) (ledger_among (take k gs) l)))) [
      | true ↦ λ here.
          let same : g.id ≡ l = grind (arith, nat_tests, here) in
          let apart : nat_eq l h.id ≡ false =
          ap (λ n. nat_eq n h.id) (sym same) ∙ apart_at g.id gs k d (omega arith) distinct.0 in
          sym (ap (λ b. cond b h.words g.words) apart)
      | false ↦ λ _. words_among-next gs distinct.1 k d (omega arith) l
    ] refl

-- how many words there are with room for an entry
words-with_room : (held : HeldValue) (ledger entry l : ℕ)
    → words_in (with_room held ledger entry) l
    ≡ cond (nat_eq l ledger) (max (words_in held ledger) (entry / 64 + 1)) (words_in held l)
words-with_room held ledger entry l =
    let most = max (words_in held ledger) (entry / 64 + 1) in
    ap (λ o. unwrap_or o 0)
    (get-insert nat_cmp_total held.words ledger most l
    ∙ ap (λ b. cond b (Some most) (finite.get held.words l)) (unsigned_tied l ledger))
    ∙ either (nat_eq l ledger) most (finite.get held.words l) where
      either : (b : Bool) (n : ℕ) (o : Option ℕ) → unwrap_or (cond b (Some n) o) 0 ≡ cond b n (unwrap_or o 0)
      either true n o = refl
      either false n o = refl

-- rows of one ledger have as many words as it, where they had fewer, and the others are as before
abbrev pub HasGrown : HeldValue → HeldValue → Ledger → Type 0
HasGrown before after g =
    (l : ℕ) → words_in after l ≡ cond (nat_eq l g.id) (max (words_in before g.id) g.words) (words_in before l)

-- with room for its last entry
pub grown-last : (before after : HeldValue) (g : Ledger) (id words : ℕ) → id ≡ g.id → words ≡ g.words → 0 < words
    → after ≡ with_room before id (words * 64 - 1) → HasGrown before after g
grown-last before after g id words here many some made = λ l.
    let enough : (words * 64 - 1) / 64 + 1 ≡ g.words = omega (arith, many) in
    ap (λ (v : HeldValue). words_in v l) made
    ∙ words-with_room before id (words * 64 - 1) l
    ∙ (λ i. cond (nat_eq l (here i)) (max (words_in before (here i)) (enough i)) (words_in before l))

-- with no words there is no room to make
pub grown-none : (before after : HeldValue) (g : Ledger) → g.words ≡ 0 → after ≡ before → HasGrown before after g
grown-none before after g none same = λ l.
    ap (λ (v : HeldValue). words_in v l) same
    ∙ elim (nat_eq l g.id) as (λ b. nat_eq l g.id ≡ b
    → words_in before l ≡ cond b (max (words_in before g.id) g.words) (words_in before l)) [
      | true ↦ λ here.
          let is : l ≡ g.id = grind (arith, nat_tests, here) in
          let most : max (words_in before g.id) g.words ≡ words_in before g.id = omega (arith, none) in
          ap (words_in before) is ∙ sym most
      | false ↦ λ _. refl
    ] refl

-- one ledger more has its rows
pub rows-next : (bookies : ℕ) (before after : HeldValue) (ledgers : List Ledger) (i : ℕ) (g : Ledger)
    → IsDistinct nat_eq (map (λ g. g.id) ledgers) → i < length ledgers → g ≡ get_or ledgers i g
    → HasRows bookies (take i ledgers) before
    → after.bookies ≡ before.bookies → HasGrown before after g → HasRows bookies (take (i + 1) ledgers) after
rows-next bookies before after ledgers i g distinct within is was same grown =
    let none : words_in before g.id ≡ 0 =
    was.words g.id ∙ ap (λ (h : Ledger). words_among (take i ledgers) h.id) is
    ∙ words_among-before ledgers distinct i g within in
    let most : max (words_in before g.id) g.words ≡ g.words = omega (arith, none) in
    let one_more : suc i ≡ i + 1 = omega arith in
    record {
      bookies = same ∙ was.bookies;
      words = λ l.
          grown l
          ∙ (λ j. cond (nat_eq l g.id) (most j) (was.words l j))
          ∙ ap (λ (h : Ledger). cond (nat_eq l h.id) h.words (words_among (take i ledgers) l)) is
          ∙ sym (words_among-next ledgers distinct i g within l)
          ∙ ap (λ n. words_among (take n ledgers) l) one_more;
    }

-- where the rows are as long as the ledgers say, what lies within the ledgers' words lies within the rows
pub FitsIn-rows : (bookies : ℕ) (ledgers : List Ledger) (held : HeldValue) (holding : Holding)
    → HasRows bookies ledgers held → HasEnds bookies ledgers holding → FitsIn held holding
FitsIn-rows bookies ledgers held holding rows ends = λ k d within.
    let copy = ends k d within in (
      omega (arith, copy.0, rows.bookies),
      omega (arith, copy.2, rows.words holding.ledger),
    )
